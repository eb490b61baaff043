-- The worked examples on analysing hold, by computing.
use mathlib.Core.Path.{refl}
use Rattle.effect.specs.Example.{Hold}
use Rattle.image.specs.Samples.{split}
use Rattle.analyzer.specs.Worked.{worked, two_rounds, first_in_first_out, reached_inspect, strict_diagnostics, join_order_only, triple_only, infinite_twice, barrier_merge, never_union, input_without_pass, exterior_pass, exterior_barrier, forward_order, third_and_fourth, last_relations, repeated_listing, unreached_stage, unreached_declaration, other_declaration, self_inverse, clean, layered}
use Rattle.analyzer.proofs.Computed.{analyse_numbers}

pub hold : Hold worked
unfolding worked analyse_numbers two_rounds first_in_first_out reached_inspect strict_diagnostics join_order_only triple_only infinite_twice barrier_merge never_union input_without_pass exterior_pass exterior_barrier forward_order third_and_fourth last_relations repeated_listing unreached_stage unreached_declaration other_declaration self_inverse clean layered split
hold = (refl, (refl, (refl, (refl, (refl, (refl, (refl, (refl, (refl, (refl, (refl, (refl, (refl, (refl, (refl, (refl, (refl, (refl, (refl, (refl, (refl, (refl, tt))))))))))))))))))))))
