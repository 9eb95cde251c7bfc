use Rattle.std.specs.Prelude.{ℕ, zero, suc, List, [], ◌++◌}

-- a text n times in a row
abbrev pub copies : ℕ → List ℕ → List ℕ
copies zero text = []
copies (suc n) text = copies n text ++ text
