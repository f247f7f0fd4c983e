-- 02, item 3: "a setting's index and subindex", as a word.
pub mod Pairs
