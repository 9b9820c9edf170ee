-- What an answer of want of memory promises: nothing. It may come at any growth, and no clause ties it to a refused one.
abbrev pub Free : Type 0
Free = Unit {0}
