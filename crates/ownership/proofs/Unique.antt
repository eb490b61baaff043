-- No second answer meets a promise.
use mathlib.Core.Path.{◌≡◌, ◌∙◌, sym}
use mathlib.Core.List.{List}
use Prim.Native.Nat.{ℕ}
use Rattle.image.specs.declared.answer.Answer.{Answer}
use Rattle.image.specs.Call.{Outcome}
use Rattle.normalizer.specs.Outcome.{normalise_of}
use Rattle.analyzer.specs.Outcome.{analyse_of}
use Rattle.ownership.specs.Promises.{Checked, Lent, Reply, Called, Normalised, Analysed}

pub check_unique : (bytes : List ℕ) (a b : Answer) → Checked bytes a → Checked bytes b → a ≡ b
check_unique bytes a b p q = p.answer ∙ sym q.answer

-- neither in what is returned nor in a byte of what was lent
called_unique : (lengths : List ℕ) (o : Outcome) (before : Lent) (a b : Lent) (r s : Reply)
    → Called lengths o before a r → Called lengths o before b s → (r ≡ s) × (a ≡ b)
called_unique lengths o before a b r s p q = (p.reply ∙ sym q.reply, p.lent ∙ sym q.lent)

pub normalise_unique : (lengths bytes : List ℕ) (before a b : Lent) (r s : Reply)
    → Normalised lengths bytes before a r → Normalised lengths bytes before b s → (r ≡ s) × (a ≡ b)
normalise_unique lengths bytes = called_unique lengths (normalise_of bytes)

pub analyse_unique : (lengths : List ℕ) (span : ℕ) (bytes : List ℕ) (before a b : Lent) (r s : Reply)
    → Analysed lengths span bytes before a r → Analysed lengths span bytes before b s → (r ≡ s) × (a ≡ b)
analyse_unique lengths span bytes = called_unique lengths (analyse_of span bytes)
