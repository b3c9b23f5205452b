use Rattle.std.proofs.Common.{ap}
use Rattle.model_states.specs.Content.{of_set, of_grow, of_counts, of_top}
use Rattle.lasp_state.specs.State.{content_of}
use Rattle.lasp_state.proofs.StateLaws.{order-as, order-set, order-grow, order-counts, order-top}
use Rattle.lasp_state.proofs.state.State.le.Goals as goal

pub returns-in-Set-Set : goal.returns-in-Set-Set
returns-in-Set-Set c =
    order-as c.le.result _ (content_of c.args.self.now) (content_of c.args.other.now) (of_set c.in-Set-Set.set) (of_set c.in-Set-Set.bound)
    (ap content_of c.in-Set-Set.is-0) (ap content_of c.in-Set-Set.is-1) (order-set c.in-Set-Set.set c.in-Set-Set.bound) c.le.ensures

pub returns-in-Count-Count : goal.returns-in-Count-Count
returns-in-Count-Count c =
    order-as c.is_at_most.result _ (content_of c.args.self.now) (content_of c.args.other.now) (of_counts c.in-Count-Count.counts) (of_counts c.in-Count-Count.bound)
    (ap content_of c.in-Count-Count.is-0) (ap content_of c.in-Count-Count.is-1) (order-counts c.in-Count-Count.counts c.in-Count-Count.bound) c.is_at_most.ensures

pub returns-in-Max-Max : goal.returns-in-Max-Max
returns-in-Max-Max c =
    order-as c.is_not_later.result _ (content_of c.args.self.now) (content_of c.args.other.now) (of_top c.in-Max-Max.register.value) (of_top c.in-Max-Max.bound.value)
    (ap content_of c.in-Max-Max.is-0) (ap content_of c.in-Max-Max.is-1) (order-top c.in-Max-Max.register.value c.in-Max-Max.bound.value) c.is_not_later.ensures

pub returns-in-Grow-Grow : goal.returns-in-Grow-Grow
returns-in-Grow-Grow c =
    order-as c.is_within.result _ (content_of c.args.self.now) (content_of c.args.other.now) (of_grow c.in-Grow-Grow.values) (of_grow c.in-Grow-Grow.bound)
    (ap content_of c.in-Grow-Grow.is-0) (ap content_of c.in-Grow-Grow.is-1) (order-grow c.in-Grow-Grow.values c.in-Grow-Grow.bound) c.is_within.ensures

pub returns-in-Fold-Fold : goal.returns-in-Fold-Fold
returns-in-Fold-Fold c =
    order-as c.le-in-Fold-Fold.result _ (content_of c.args.self.now) (content_of c.args.other.now) (of_set c.in-Fold-Fold.set) (of_set c.in-Fold-Fold.bound)
    (ap content_of c.in-Fold-Fold.is-0) (ap content_of c.in-Fold-Fold.is-1) (order-set c.in-Fold-Fold.set c.in-Fold-Fold.bound) c.le-in-Fold-Fold.ensures
