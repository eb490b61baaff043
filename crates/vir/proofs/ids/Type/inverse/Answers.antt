use mathlib.Core.Path.{sym, ap}
use mathlib.Core.Bool.{Bool, cond}
use Prim.Native.Nat.{◌+◌, ◌-◌}
use borrow.Author.Tests.{lt-ltb, le-ltb}
use Rattle.vir.proofs.ids.Type.inverse.Goals as goal

pub returns-then-self-lt32768 : goal.returns-then-self-lt32768
returns-then-self-lt32768 c =
    sym (ap (λ (b : Bool). cond b (c.args.self.0 + 32768) (c.args.self.0 - 32768)) (lt-ltb _ _ c.if-self-lt32768.true))

pub returns-else-self-lt32768 : goal.returns-else-self-lt32768
returns-else-self-lt32768 c =
    sym (ap (λ (b : Bool). cond b (c.args.self.0 + 32768) (c.args.self.0 - 32768)) (le-ltb _ _ c.if-self-lt32768.false))
