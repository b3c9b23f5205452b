use Rattle.std.proofs.Common.{[], ap, ◌∙◌}
use Rattle.lasp_logset.specs.Few.{AreSeen}
use Rattle.lasp_logset.specs.declared.few.Few.{Few}
use Rattle.lasp_logset.proofs.FewLaws.{seen-none, seen-same}
use Rattle.lasp_logset.proofs.few.Few.follow.Goals.{then-has_dead, else-has_dead, then-self-gt0-via-then-self-gt0, then-self-gt0-via-else-self-gt0+then-begins}
use Rattle.lasp_logset.proofs.few.Few.follow.Goals as goal

pub look-requires : goal.look-requires
look-requires c =
    let rows = c.args.rows.now.entries in
    let few = c.args.self.now in
    let left = c.if-has_dead.self in
    let now = c.then-self-gt0.self in
    let seen : AreSeen rows left.places.items left.upto = elim c.if-has_dead.branch [
      | then-has_dead w ↦ seen-same rows [] left.places.items 0 left.upto (ap (λ (f : Few). f.places.items) w.self-is ∙ w.clear.ensures.places) (ap (λ (f : Few). f.upto) w.self-is ∙ w.clear.ensures.upto) (seen-none rows)
      | else-has_dead w ↦ seen-same rows few.places.items left.places.items few.upto left.upto (ap (λ (f : Few). f.places.items) w.self-is) (ap (λ (f : Few). f.upto) w.self-is) c.requires
    ] in
    elim c.then-self-gt0.branch [
      | then-self-gt0-via-then-self-gt0 w ↦ seen-same rows left.places.items now.places.items left.upto now.upto (ap (λ (f : Few). f.places.items) w.self-is) (ap (λ (f : Few). f.upto) w.self-is) seen
      | then-self-gt0-via-else-self-gt0+then-begins w ↦
          seen-same rows left.places.items now.places.items left.upto now.upto (ap (λ (f : Few). f.places.items) w.self-is ∙ w.begins.ensures.places) (ap (λ (f : Few). f.upto) w.self-is ∙ w.begins.ensures.upto) seen
    ]
