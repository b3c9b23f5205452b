use Rattle.std.proofs.Common.{◌≡◌, ◌∙◌, [], ◌∷◌, ap, sym}
use Rattle.model_values.specs.Value.{Val}
use Rattle.model_sets.specs.Rows.{is_of}
use Rattle.lasp_setops.specs.Prelude.{gives, row_limit}
use Rattle.lasp_setops.proofs.PairLaws.{product-made, intersection-made, intersection-none, join-made, join-none, long-made}
use Rattle.lasp_setops.proofs.pairs.Pairing.add_made.Goals.{in-Product+in_ok-made-in-Product, in-Intersection+in_ok-made-in-Intersection}
use Rattle.lasp_setops.proofs.pairs.Pairing.add_made.Goals as goal

made : (c : goal.After-add_within) → gives c.args.self c.args.first.now c.args.second.now ≡ c.match-self.made ∷ []
made c = elim c.match-self.branch [
  | in-Product+in_ok-made-in-Product w ↦ product-made c.args.self c.args.first.now c.args.second.now c.match-self.made w.in-Product.is (w.made-is ∙ w.in_ok-made-in-Product.ensures)
  | in-Intersection+in_ok-made-in-Intersection w ↦ intersection-made c.args.self c.args.first.now c.args.second.now c.match-self.made w.in-Intersection.is (ap (λ (v : Val). is_of v c.args.second.now) (sym w.value.ensures) ∙ sym w.is_of.ensures ∙ w.if-is_of.true) (w.made-is ∙ w.in_ok-made-in-Intersection.ensures)
]

pub returns-in-Intersection-2-clause-ok : goal.returns-in-Intersection-2-clause-ok
returns-in-Intersection-2-clause-ok c =
    join-none (gives c.args.self c.args.first.now c.args.second.now) c.args.out.now c.ascends.ensures
    (intersection-none c.args.self c.args.first.now c.args.second.now c.in-Intersection.is (ap (λ (v : Val). is_of v c.args.second.now) (sym c.value.ensures) ∙ sym c.is_of.ensures ∙ c.if-is_of.false))

pub returns-clause-ok : goal.returns-clause-ok
returns-clause-ok c =
    join-made c.match-self.made (gives c.args.self c.args.first.now c.args.second.now) c.args.out.now c.add_within.new.out c.add_within.result c.ascends.ensures (made c) c.add_within.ensures.ok

pub returns-clause-too_many : goal.returns-clause-too_many
returns-clause-too_many c =
    λ h. long-made row_limit c.match-self.made (gives c.args.self c.args.first.now c.args.second.now) c.args.out.now c.ascends.ensures (made c) (c.add_within.ensures.too_many h)
