use Rattle.std.proofs.Common.{◌≢◌, ◌↔◌, length, Bool, IsTrue, IfOk, Result, Ok, ap, sym, subst, ◌∙◌}
use Rattle.model_states.specs.Content.{of_set, of_grow, of_counts, of_top}
use Rattle.model_states.specs.Threshold.{counter}
use Rattle.lasp_state.specs.CountLaws.{length-larger}
use Rattle.lasp_state.specs.State.{content_of, shape_of, number_of}
use Rattle.lasp_state.proofs.FoldLaws.{no-number, on-err}
use Rattle.lasp_state.proofs.StateLaws.{join-counts, join-top, differ-sets, differ-grow, differ-counts, differ-registers, grew-as, grew-result, on-ok, same-nodes, joined-as}
use Rattle.lasp_state.specs.declared.state.State.TheVariants.{Set, Grow}
use Rattle.lasp_state.proofs.state.State.join_part.Goals.{in-Set-Set, in-Grow-Grow, in-Count-Count, in-Max-Max}
use Rattle.lasp_state.proofs.state.State.join_part.Goals as goal

pub returns-clause-shape : goal.returns-clause-shape
returns-clause-shape c = elim c.match-self.branch [
  | in-Set-Set w ↦ ap shape_of w.self-is ∙ sym (ap shape_of w.in-Set-Set.is-0)
  | in-Grow-Grow w ↦ ap shape_of w.self-is ∙ sym (ap shape_of w.in-Grow-Grow.is-0)
  | in-Count-Count w ↦
      let same = same-nodes w.in-Count-Count.counts w.in-Count-Count.others _ _ c.requires.shape (ap shape_of w.in-Count-Count.is-0) (ap shape_of w.in-Count-Count.is-1) in
      ap shape_of w.self-is ∙ ap counter (ap length w.raise.ensures.ok ∙ length-larger w.in-Count-Count.counts w.in-Count-Count.others same) ∙ sym (ap shape_of w.in-Count-Count.is-0)
  | in-Max-Max w ↦ ap shape_of w.self-is ∙ sym (ap shape_of w.in-Max-Max.is-0)
]

pub returns-clause-ok : goal.returns-clause-ok
returns-clause-ok c = elim c.match-self.branch [
  | in-Set-Set w ↦
      on-ok w.join_in.result c.match-self.result _ _ w.result-is
      (λ joined. joined-as _ _ _ (of_set w.join_in.new.self) (of_set w.in-Set-Set.set) (of_set w.in-Set-Set.rows)
      (ap content_of w.self-is) (ap content_of w.in-Set-Set.is-0) (ap content_of w.in-Set-Set.is-1) (ap of_set joined)) w.join_in.ensures.ok
  | in-Grow-Grow w ↦
      on-ok w.unite.result c.match-self.result _ _ w.result-is
      (λ joined. joined-as _ _ _ (of_grow w.unite.new.self) (of_grow w.in-Grow-Grow.values) (of_grow w.in-Grow-Grow.others)
      (ap content_of w.self-is) (ap content_of w.in-Grow-Grow.is-0) (ap content_of w.in-Grow-Grow.is-1) (ap of_grow joined)) w.unite.ensures.ok
  | in-Count-Count w ↦
      let counts = w.in-Count-Count.counts in
      let others = w.in-Count-Count.others in
      let same = same-nodes counts others _ _ c.requires.shape (ap shape_of w.in-Count-Count.is-0) (ap shape_of w.in-Count-Count.is-1) in
      on-ok (Ok w.raise.result) c.match-self.result _ _ w.result-is
      (λ joined. joined-as _ _ _ (of_counts w.raise.new.self) (of_counts counts) (of_counts others)
      (ap content_of w.self-is) (ap content_of w.in-Count-Count.is-0) (ap content_of w.in-Count-Count.is-1) (ap of_counts joined ∙ join-counts counts others same)) w.raise.ensures.ok
  | in-Max-Max w ↦
      let register = w.in-Max-Max.register in
      let number = w.in-Max-Max.number in
      on-ok (Ok w.raise-in-Max-Max.result) c.match-self.result _ _ w.result-is
      (λ joined. joined-as _ _ _ (of_top w.raise-in-Max-Max.new.self.value) (of_top register.value) (of_top number.value)
      (ap content_of w.self-is) (ap content_of w.in-Max-Max.is-0) (ap content_of w.in-Max-Max.is-1) (ap of_top joined ∙ join-top register.value number.value)) w.raise-in-Max-Max.ensures.ok
]

pub returns-clause-grew : goal.returns-clause-grew
returns-clause-grew c = elim c.match-self.branch [
  | in-Set-Set w ↦
      subst (λ (r : Result Bool _). IfOk r (λ grew. IsTrue grew ↔ (content_of c.match-self.self ≢ content_of c.args.self.now))) (sym w.result-is)
      (grew-result w.join_in.result (w.join_in.new.self ≢ w.in-Set-Set.set) _ _ (of_set w.join_in.new.self) (of_set w.in-Set-Set.set)
      (ap content_of w.self-is) (ap content_of w.in-Set-Set.is-0) (differ-sets w.join_in.new.self w.in-Set-Set.set) w.join_in.ensures.grew)
  | in-Grow-Grow w ↦
      subst (λ (r : Result Bool _). IfOk r (λ grew. IsTrue grew ↔ (content_of c.match-self.self ≢ content_of c.args.self.now))) (sym w.result-is)
      (grew-result w.unite.result (w.unite.new.self ≢ w.in-Grow-Grow.values) _ _ (of_grow w.unite.new.self) (of_grow w.in-Grow-Grow.values)
      (ap content_of w.self-is) (ap content_of w.in-Grow-Grow.is-0) (differ-grow w.unite.new.self w.in-Grow-Grow.values) w.unite.ensures.grew)
  | in-Count-Count w ↦
      subst (λ (r : Result Bool _). IfOk r (λ grew. IsTrue grew ↔ (content_of c.match-self.self ≢ content_of c.args.self.now))) (sym w.result-is)
      (grew-as w.raise.result (w.raise.new.self ≢ w.in-Count-Count.counts) _ _ (of_counts w.raise.new.self) (of_counts w.in-Count-Count.counts)
      (ap content_of w.self-is) (ap content_of w.in-Count-Count.is-0) (differ-counts w.raise.new.self w.in-Count-Count.counts) w.raise.ensures.grew)
  | in-Max-Max w ↦
      subst (λ (r : Result Bool _). IfOk r (λ grew. IsTrue grew ↔ (content_of c.match-self.self ≢ content_of c.args.self.now))) (sym w.result-is)
      (grew-as w.raise-in-Max-Max.result (w.raise-in-Max-Max.new.self ≢ w.in-Max-Max.register) _ _ (of_top w.raise-in-Max-Max.new.self.value) (of_top w.in-Max-Max.register.value)
      (ap content_of w.self-is) (ap content_of w.in-Max-Max.is-0) (differ-registers w.raise-in-Max-Max.new.self w.in-Max-Max.register) w.raise-in-Max-Max.ensures.grew)
]

pub returns-clause-number : goal.returns-clause-number
returns-clause-number c = elim c.match-self.branch [
  | in-Set-Set w ↦ no-number c.match-self.result c.match-self.self c.args.self.now c.args.other.now (ap number_of w.self-is) (ap number_of w.in-Set-Set.is-0) (ap number_of w.in-Set-Set.is-1)
  | in-Grow-Grow w ↦ no-number c.match-self.result c.match-self.self c.args.self.now c.args.other.now (ap number_of w.self-is) (ap number_of w.in-Grow-Grow.is-0) (ap number_of w.in-Grow-Grow.is-1)
  | in-Count-Count w ↦ no-number c.match-self.result c.match-self.self c.args.self.now c.args.other.now (ap number_of w.self-is) (ap number_of w.in-Count-Count.is-0) (ap number_of w.in-Count-Count.is-1)
  | in-Max-Max w ↦ no-number c.match-self.result c.match-self.self c.args.self.now c.args.other.now (ap number_of w.self-is) (ap number_of w.in-Max-Max.is-0) (ap number_of w.in-Max-Max.is-1)
]

pub returns-clause-err : goal.returns-clause-err
returns-clause-err c = elim c.match-self.branch [
  | in-Set-Set w ↦ on-err w.join_in.result c.match-self.result _ _ w.result-is (λ same. w.self-is ∙ ap Set same ∙ sym w.in-Set-Set.is-0) w.join_in.ensures.err
  | in-Grow-Grow w ↦ on-err w.unite.result c.match-self.result _ _ w.result-is (λ same. w.self-is ∙ ap Grow same ∙ sym w.in-Grow-Grow.is-0) w.unite.ensures.err
  | in-Count-Count w ↦ on-err (Ok w.raise.result) c.match-self.result _ _ w.result-is (λ wrong. absurd wrong) tt
  | in-Max-Max w ↦ on-err (Ok w.raise-in-Max-Max.result) c.match-self.result _ _ w.result-is (λ wrong. absurd wrong) tt
]
