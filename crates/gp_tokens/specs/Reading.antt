-- Reading from left to right, as the functions over a cursor do.
use Rattle.std.specs.Prelude.{◌≡◌, ℕ, zero, suc, Bool, true, false, if◌then◌else◌, List, [], ◌∷◌, ◌++◌, length, Option, Some, None, option_map, ◌&&◌, ◌==◌, nat_eq}
use Rattle.gp_tokens.specs.declared.token.Kind.TheVariants as k
use Rattle.gp_tokens.specs.declared.token.Token.{Token}
use Rattle.gp_tokens.specs.Bytes.{is_string_byte}
use Rattle.gp_tokens.specs.Numbers.{checked_number}
use Rattle.gp_values.specs.Texts.{IsText}
use Rattle.gp_tokens.specs.declared.error.ReadError.{ReadError}
use Rattle.gp_tokens.specs.declared.error.ReadError.TheVariants as error
use Rattle.gp_tokens.specs.declared.want.Want.{Want}
use Rattle.gp_tokens.specs.declared.want.Want.TheVariants as want
use Rattle.gp_tokens.specs.Wants.{meets}
use Rattle.gp_tokens.specs.Ahead.{◌>>=◌}
use Rattle.gp_tokens.specs.Shape.{second_of, list_of}
use Rattle.gp_tokens.specs.Grammar.{Grammar, One, Number, NumberAt, String, Then, Made, At, If, Absent, Repeated, Separated, Never}
use Rattle.gp_memory.specs.Free.{Free}

-- a tree and the tokens behind it, or nothing where the tokens begin with no such tree
abbrev pub Reader : Type 0 → Type 0
Reader A = List Token → Option (A × List Token)

-- Want of memory may come at any tokens, and the other error where nothing is read.
abbrev pub Fails : {Y : Type 0} → ReadError → Option Y → Type 0
Fails error.NoMemory read = Free
Fails (error.Syntax left) read = read ≡ None

-- ---- parts

abbrev pub token : Want → Reader Token
token want [] = None
token want (t ∷ ts) = if meets want t then Some (t, ts) else None

abbrev pub begins : Want → List Token → Bool
begins want [] = false
begins want (t ∷ ts) = meets want t

-- the tokens behind such a token, where it comes next
abbrev pub behind : Want → List Token → List Token
behind want [] = []
behind want (t ∷ ts) = if meets want t then ts else t ∷ ts

abbrev pub number : Reader ℕ
number ts = token (want.Kind k.Number) ts >>= λ x. option_map (λ value. (value, x.1)) (checked_number x.0.text)

abbrev pub number_at : Reader (ℕ × ℕ)
number_at ts = token (want.Kind k.Number) ts >>= λ x. option_map (λ value. ((value, x.0.start), x.1)) (checked_number x.0.text)

-- the characters before a quotation mark that ends the text
abbrev pub closed : List ℕ → Option (List ℕ)
closed [] = None
closed (b ∷ text) = if is_string_byte b then option_map (λ characters. b ∷ characters) (closed text) else (if b == 34 && nat_eq (length text) 0 then Some [] else None)

-- the characters between two quotation marks
abbrev pub quoted : List ℕ → Option (List ℕ)
quoted [] = None
quoted (b ∷ text) = if b == 34 then closed text else None

-- what stands between the quotation marks of a text, where it is one of characters between two
abbrev pub IsQuoted : Option (List ℕ) → List ℕ → Type 0
IsQuoted None text = (characters : List ℕ) → text ≡ 34 ∷ characters ++ 34 ∷ [] → IsText characters → ⊥
IsQuoted (Some characters) text = (text ≡ 34 ∷ characters ++ 34 ∷ []) × IsText characters

abbrev pub string : Reader (List ℕ)
string ts = token (want.Kind k.String) ts >>= λ x. option_map (λ characters. (characters, x.1)) (quoted x.0.text)

infixr 20 ◌and◌
abbrev pub ◌and◌ : {A B : Type 0} → Reader A → Reader B → Reader (A × B)
r and s = λ ts. r ts >>= λ x. s x.1 >>= λ y. Some ((x.0, y.0), y.1)

abbrev pub made : {A B : Type 0} → (A → B) → Reader A → Reader B
made f r = λ ts. r ts >>= λ x. Some (f x.0, x.1)

-- the first where such a token comes next, the second elsewhere
abbrev pub at : {A : Type 0} → Want → Reader A → Reader A → Reader A
at want r s = λ ts. if begins want ts then r ts else s ts

abbrev pub absent : {A : Type 0} → A → Reader A
absent x = λ ts. Some (x, ts)

-- as long as such a token comes next, and at most so often
unfoldable pub many : {A : Type 0} → Want → Reader A → ℕ → Reader (List A)
many want r zero ts = Some ([], ts)
many want r (suc n) ts = if begins want ts then (r ts >>= λ x. many want r n x.1 >>= λ xs. Some (x.0 ∷ xs.0, xs.1)) else Some ([], ts)

-- as long as such a token comes next
abbrev pub repeated : {A : Type 0} → Want → Reader A → Reader (List A)
repeated want r = λ ts. many want r (length ts) ts

-- r {sign r}
abbrev pub separated : {A : Type 0} → Want → Reader A → Reader (List A)
separated sign r = made list_of (r and repeated sign (made second_of (token sign and r)))

-- ---- the reader of a grammar

abbrev pub reader_of : {A : Type 0} → Grammar A → Reader A
reader_of (One want) = token want
reader_of Number = number
reader_of NumberAt = number_at
reader_of String = string
reader_of (Then g h) = reader_of g and reader_of h
reader_of (Made f g) = made f (reader_of g)
reader_of (At want g h) = at want (reader_of g) (reader_of h)
reader_of (If p g h) = λ ts. if p ts then reader_of g ts else reader_of h ts
reader_of (Absent x) = absent x
reader_of (Repeated want g) = repeated want (reader_of g)
reader_of (Separated sign g) = separated sign (reader_of g)
reader_of Never = λ ts. None
