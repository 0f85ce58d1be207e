-- A sheet as it is written: the bytes of form 1 for a list of sections, and for a platform and a list of weights.
use Rattle.std.specs.Prelude.{ℕ, ◌+◌, ◌*◌, List, [], ◌∷◌, ◌++◌, length, drop}
use Rattle.job.specs.declared.Platform.{Platform}
use Rattle.fields.specs.Written.{fields}
use Rattle.header.specs.Header.{form, pairs_start, pair_length}
use Rattle.kinds.specs.Kinds.{platform_kind, weights_kind}

-- the pairs of offset and length of sections of these sizes, which follow one another from byte `start` on
unfoldable pub pairs : (start : ℕ) → (sizes : List ℕ) → List ℕ
pairs start [] = []
pairs start (z ∷ sizes) = start ∷ z ∷ pairs (start + z) sizes

-- form 1, n tasks, the number of sections, 0, and the pairs; the first section follows the last pair
abbrev pub header : ℕ → (sizes : List ℕ) → List ℕ
header n sizes = form ∷ n ∷ length sizes ∷ 0 ∷ fields (pairs (pairs_start + pair_length * length sizes) sizes)

-- the sizes of sections
unfoldable pub lengths : List (List ℕ) → List ℕ
lengths [] = []
lengths (x ∷ xs) = length x ∷ lengths xs

-- sections, one after the other
unfoldable pub together : List (List ℕ) → List ℕ
together [] = []
together (x ∷ xs) = x ++ together xs

-- the sheet of n tasks with these sections, with no gaps
unfoldable pub form_of : ℕ → (sections : List (List ℕ)) → List ℕ
form_of n sections = header n (lengths sections) ++ together sections

-- the seven fields of a platform section, in 01's order
abbrev pub platform_fields : Platform → List ℕ
platform_fields p = p.failstop ∷ p.silent ∷ p.cd ∷ p.cm ∷ p.v ∷ p.rd ∷ p.rm ∷ []

abbrev pub platform_section : Platform → List ℕ
platform_section p = platform_kind ∷ fields (platform_fields p)

abbrev pub weights_section : (weights : List ℕ) → List ℕ
weights_section weights = weights_kind ∷ fields weights

-- the platform, then the weights
unfoldable pub form_one : Platform → (weights : List ℕ) → List ℕ
form_one p weights = form_of (length weights) (platform_section p ∷ weights_section weights ∷ [])

-- 'platform at 20, weights at 49'
abbrev pub platform_start : ℕ
platform_start = 20

abbrev pub weights_start : ℕ
weights_start = 49

-- a buffer in which a sheet is written: its first bytes are the sheet's, as many as it has, and the others are as they were
abbrev pub written : (sheet buffer : List ℕ) → List ℕ
written sheet buffer = sheet ++ drop (length sheet) buffer
