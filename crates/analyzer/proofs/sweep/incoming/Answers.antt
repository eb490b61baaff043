use mathlib.Core.Path.{◌≡◌, ◌∙◌, sym, ap}
use Prim.Native.Nat.{ℕ}
use lib.ListN.{length, replicate}
use lib.Seq.{length-take-le, take_at}
use Rattle.image.specs.View.{view}
use Rattle.reading.proofs.Reading.{image_of, interfaces-many}
use Rattle.analyzer.proofs.Sweeps.{incoming-sized}
use Rattle.analyzer.proofs.Sweeping.{zeros_ready, sweeping_all}
use Rattle.analyzer.proofs.sweep.incoming.Goals as goal
use Rattle.analyzer.proofs.sweep.incoming.Goals.{After-fill}

-- the part of the table that is lent, cleared
cleared : (c : After-fill) → c.fill.new.self ≡ replicate c.args.image.now.records.counts.interfaces 0
cleared c =
    c.fill.ensures.after (λ y e. e)
    ∙ ap (λ (n : ℕ). replicate n 0) (length-take-le c.args.image.now.records.counts.interfaces c.args.table.now c.requires.interfaces_in_bounds)

pub sweep-requires-clause-ready : goal.sweep-requires-clause-ready
sweep-requires-clause-ready c =
    zeros_ready (cleared (goal.at.sweep-requires-clause-ready c).After-fill) c.args.image.now.records.sized.interfaces

pub returns : goal.returns
returns c =
    let many = interfaces-many (image_of c.args.image.now) in
    let zeros = cleared (goal.at.returns c).After-fill in
    let swept = sweeping_all (zeros ∙ ap (λ (n : ℕ). replicate n 0) (sym many)) c.sweep.ensures in
    take_at c.sweep.new.incoming _ _ (ap length swept ∙ incoming-sized (view c.args.image.now.records.bytes.now) ∙ many) ∙ swept
