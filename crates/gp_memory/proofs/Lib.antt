pub mod Basics
