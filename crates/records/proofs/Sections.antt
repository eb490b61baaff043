-- The sections lie end to end, in the order of the file, behind the header and before the refs.
use mathlib.Core.Path.{◌≡◌, refl}
use mathlib.Core.List.{List, [], ◌∷◌}
use Prim.Native.Nat.{ℕ, ◌+◌, ◌*◌}
use Rattle.records.specs.declared.layout.Counts.{Counts}
use Rattle.records.specs.declared.layout.Section.{Section}
use Rattle.records.specs.declared.layout.TheConstants.Section.{ALL}
use Rattle.records.specs.Layout.{head_size, refs_at, sections, size_of, count_of, start_of}

abbrev pub end_of : Counts → Section → ℕ
end_of c x = start_of c x + size_of x * count_of c x

-- the first starts at `from`, each other where the one before it ends, and the last ends at `to`
abbrev pub EndToEnd : Counts → ℕ → List Section → ℕ → Type 0
EndToEnd c from [] to = from ≡ to
EndToEnd c from (x ∷ xs) to = (start_of c x ≡ from) × EndToEnd c (end_of c x) xs to

pub end_to_end : (c : Counts) → EndToEnd c head_size sections (refs_at c)
end_to_end c = (refl, (refl, (refl, (refl, (refl, (refl, (refl, refl)))))))

-- the code has them in that order
pub all_listed : ALL ≡ sections
all_listed = refl
