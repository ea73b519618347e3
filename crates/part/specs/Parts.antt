-- SCOPE 5.8, and every answer that says where bytes stand: a part of lent bytes, its end and its bytes.
use Rattle.std.specs.Prelude.{ℕ, ◌+◌, List, take, drop}
use Rattle.part.specs.declared.Part.{Part}

-- where it ends
abbrev pub end_of : Part → ℕ
end_of p = p.start + p.length

-- its bytes, as far as they are there
abbrev pub bytes_in : List ℕ → Part → List ℕ
bytes_in s p = take p.length (drop p.start s)
