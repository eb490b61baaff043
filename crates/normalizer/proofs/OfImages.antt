-- Normalising, of images: what normalise takes is layered, and what it writes is accepted as flat.
use mathlib.Core.Path.{◌≡◌, ◌∙◌, refl, ap}
use mathlib.Core.Bool.{Bool, true, false}
use mathlib.Core.List.{List}
use Prim.Native.Nat.{ℕ, ◌≤◌}
use native.Mathlib.Omega.{arith}
use borrow.Author.Tests.{eqb-true, eqb-false}
use lib.Dec.{eqb}
use lib.ListN.{length}
use Rattle.records.specs.Bytes.{Bytes}
use Rattle.records.specs.Layout.{within}
use Rattle.image.specs.Call.{Outcome, refusal, done, code_for}
use Rattle.image.specs.Check.{check_of}
use Rattle.image.specs.Encode.{encode, counts_of_vir}
use Rattle.image.specs.View.{view}
use Rattle.image.specs.Vir.{Vir}
use Rattle.image.proofs.Answering.{within-most}
use Rattle.image.proofs.Reading.{encode-length}
use Rattle.wellformed.proofs.Answered.{written-flat}
use Rattle.wellformed.proofs.Found.{layered_found, rules_found, wanted}
use Rattle.wellformed.proofs.Viewed.{viewed}
use Rattle.normalizer.specs.Layered.{Layered}
use Rattle.normalizer.specs.Once.{SetOnce}
use Rattle.normalizer.specs.Outcome.{laid_out, normalise_of}
use Rattle.normalizer.specs.Normalize.{normalize}
use Rattle.normalizer.proofs.Flat.{normal_flat}
use Rattle.normalizer.proofs.Formed.{normal_formed}
use Rattle.normalizer.proofs.Once.{set_once}

-- an image that check accepts as layered
pub layered : (s : List ℕ) → Bytes s → (check_of s).code ≡ 0 → (check_of s).kind ≡ 2 → Layered (view s)
layered s small h k = record { formed = viewed s small h; kind = layered_found s small h k; rules = rules_found s small h k }

-- a value's outcome is its encoding, if its counts are within their maxima
laid : (v : Vir) → (laid_out v).code ≡ 0 → (within (counts_of_vir v) ≡ true) × ((laid_out v).bytes ≡ encode v)
laid v h = go (within (counts_of_vir v)) h
  where
    outcome : Bool → Outcome
    outcome b = elim b [ true ↦ done (encode v) | false ↦ refusal 9 0 ]

    go : (b : Bool) → (outcome b).code ≡ 0 → (b ≡ true) × ((outcome b).bytes ≡ encode v)
    go true e = (refl, refl)
    go false e = absurd (omega arith)

-- .. has each of its stages set exactly once, also where the result is over a maximum: the Rust's unwrap cannot fail
pub once : (s : List ℕ) → Bytes s → (check_of s).code ≡ 0 → (check_of s).kind ≡ 2 → SetOnce (view s)
once s small h k = set_once (view s) (layered s small h k)

module _ (s : List ℕ) (small : Bytes s) (h : (normalise_of s).code ≡ 0) where
  -- normalise's code 0 is check's, with kind 2
  took : ((check_of s).code ≡ 0) × ((check_of s).kind ≡ 2) × ((laid_out (normalize (view s))).code ≡ 0) × ((normalise_of s).bytes ≡ (laid_out (normalize (view s))).bytes)
  unfolding normalise_of
  took = go (eqb (code_for 2 (check_of s)) 0) refl h
    where
      outcome : Bool → Outcome
      outcome b = elim b [ true ↦ laid_out (normalize (view s)) | false ↦ refusal (code_for 2 (check_of s)) (check_of s).place ]

      go : (b : Bool) → eqb (code_for 2 (check_of s)) 0 ≡ b → (outcome b).code ≡ 0
          → ((check_of s).code ≡ 0) × ((check_of s).kind ≡ 2) × ((laid_out (normalize (view s))).code ≡ 0) × ((outcome b).bytes ≡ (laid_out (normalize (view s))).bytes)
      go true e k =
          let w : ((check_of s).code ≡ 0) × ((check_of s).kind ≡ 2) = wanted (check_of s) 2 (eqb-true _ 0 e) in
          (w.0, w.1, k, refl)
      go false e k = absurd (eqb-false _ 0 e k)

  -- so its value is layered, and the result is within the maxima
  pub source : Layered (view s)
  source = layered s small took.0 took.1

  inside : within (counts_of_vir (normalize (view s))) ≡ true
  inside = (laid (normalize (view s)) took.2).0

  written : (normalise_of s).bytes ≡ encode (normalize (view s))
  written = took.3 ∙ (laid (normalize (view s)) took.2).1

  -- check accepts what is written as flat
  pub written-accepted : check_of (normalise_of s).bytes ≡ record { code = 0; place = 0; kind = 1 }
  written-accepted =
      ap check_of written
      ∙ written-flat (normalize (view s)) (normal_formed (view s) source (set_once (view s) source) inside) (normal_flat (view s) source (set_once (view s) source) inside)

  -- and it has room wherever an image has
  pub fits : length (normalise_of s).bytes ≤ 63893
  fits =
      omega (
        arith,
        ap length written,
        encode-length (normalize (view s)),
        within-most (counts_of_vir (normalize (view s))) inside,
      )
