-- How often each number of a list stands in it, up to two.
use Rattle.std.specs.Prelude.{Bool, cond, ◌&&◌, List, [], ◌∷◌, ℕ, ◌+◌, ◌*◌, eqb, ltb, leb, get_or, set}
use Rattle.vir.specs.Ids.{none}
use Rattle.records.specs.declared.layout.Counts.{Counts}
use Rattle.image.specs.declared.tally.Owner.{Owner}
use Rattle.image.specs.declared.tally.Owner.TheVariants.{Interface, Layer}
use Rattle.records.specs.Bytes.{u16_at}
use Rattle.records.specs.Layout.{stages_at, stage_size}

-- none, one, several
abbrev pub bump : ℕ → ℕ
bump n = cond (ltb n 2) (n + 1) n

unfoldable pub tally : List ℕ → List ℕ → List ℕ
tally [] counts = counts
tally (t ∷ ts) counts = tally ts (set counts t (bump (get_or counts t 0)))

-- a field of 16 bits of the stage of a number
abbrev pub field_is : List ℕ → Counts → ℕ → ℕ → ℕ → Bool
field_is s c f owner t = eqb (u16_at s (stages_at c + stage_size * t + f)) owner

-- whether a stage names who lists it, in its interface field or in its layer field
abbrev pub owner_is : List ℕ → Counts → Owner → ℕ → Bool
owner_is s c (Interface i) t = field_is s c 4 i.0 t
owner_is s c (Layer l) t = field_is s c 6 l.0 t

-- an entry that is none counts for nothing
abbrev pub tally_entry : ℕ → List ℕ → List ℕ
tally_entry e counts = cond (eqb e none) counts (set counts e (bump (get_or counts e 0)))

abbrev pub owns : (ℕ → Bool) → ℕ → Bool → Bool
owns f e ok = cond (eqb e none) ok (ok && f e)

-- a number was counted, and at most so often
abbrev pub counted_at : List ℕ → ℕ → ℕ → Bool
counted_at counts most t = leb 1 (get_or counts t 0) && leb (get_or counts t 0) most
