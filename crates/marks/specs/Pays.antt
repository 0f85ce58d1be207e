-- What a mark pays when passed: the table of four rows of document 01.
use Rattle.std.specs.Prelude.{ℕ, Bool, true, false, List, [], ◌∷◌, get_or}
use Rattle.marks.specs.declared.Pays.{Pays}

-- V, C_M, C_D
abbrev pub row : (v cm cd : Bool) → Pays
row v cm cd = record { v = v; cm = cm; cd = cd }

-- mark 0 pays nothing, 1 pays V, 2 pays V and C_M, 3 pays V, C_M and C_D
unfoldable pub table : List Pays
table = row false false false ∷ row true false false ∷ row true true false ∷ row true true true ∷ []

-- what the mark k pays; 9 refuses a mark above 3, and 21 a state with one at a task, so what such a mark pays decides nothing
unfoldable pub pays_of : ℕ → Pays
pays_of k = get_or table k (row false false false)
