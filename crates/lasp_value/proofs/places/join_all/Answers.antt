use Rattle.std.proofs.Common.{arith, ◌≡◌, ◌↔◌, ◌≢◌, ◌+◌, ◌<◌, suc, ◌||◌, IsTrue, length, sym, ap, subst, ◌∙◌, slice_index_or, slice_set}
use Rattle.std.proofs.lemmas.List.{get_or_default}
use Rattle.lasp_value.proofs.PlacesLaws.{joined_first, joined_first-all, length-joined_first, joined_first-next, related-length, related-at, joined_first-more, joined_places-set, changed-set}
use Rattle.lasp_value.proofs.places.join_all.Goals.{then-branch, else-branch}
use Rattle.lasp_value.proofs.places.join_all.Goals as goal

pub bounds-into-i : goal.bounds-into-i
bounds-into-i g c =
    omega (
      arith,
      c.loop-i-test.true,
      ap length c.loop-i.invariant.0,
      length-joined_first g.L.Lattice.join c.loop-i.i c.args.into.now c.args.others.now,
      related-length g.L.Lattice.same_shape c.args.into.now c.args.others.now c.requires,
    )

pub bounds-into-i-in-loop-i : goal.bounds-into-i-in-loop-i
bounds-into-i-in-loop-i g c =
    omega (
      arith,
      c.loop-i-test.true,
      ap length c.loop-i.invariant.0,
      length-joined_first g.L.Lattice.join c.loop-i.i c.args.into.now c.args.others.now,
      related-length g.L.Lattice.same_shape c.args.into.now c.args.others.now c.requires,
    )

pub join_in-requires : goal.join_in-requires
join_in-requires g c =
    let i = c.loop-i.i in
    let d = c.index-into-i-in-loop-i.result in
    let t = c.index-others-i.result in
    let as_before : slice_index_or c.loop-i.into i d ≡ slice_index_or c.args.into.now i d =
    ap (λ l. slice_index_or l i d) c.loop-i.invariant.0 ∙ joined_first-next g.L.Lattice.join i c.args.into.now c.args.others.now d in
    subst (λ u. g.L.Lattice.same_shape (slice_index_or c.loop-i.into i d) u) (sym c.index-others-i.is)
    (subst (λ s. g.L.Lattice.same_shape s (slice_index_or c.args.others.now i t)) (sym as_before)
    (related-at g.L.Lattice.same_shape c.args.into.now c.args.others.now i d t c.requires (omega (arith, c.loop-i-test.true))))

pub loop-i-preserved : goal.loop-i-preserved
loop-i-preserved g c =
    let i = c.loop-i.i in
    let join = g.L.Lattice.join in
    let law = g.met.L.Lattice in
    let into = c.loop-i.into in
    let old = c.args.into.now in
    let others = c.args.others.now in
    let new = c.join_in.new.self in
    let d = c.index-into-i-in-loop-i.result in
    let s = slice_index_or into i d in
    let t = c.index-others-i.result in
    let within : i < length others = omega (arith, c.loop-i-test.true) in
    let lengths = related-length g.L.Lattice.same_shape old others c.requires in
    let in_old : i < length old = omega (arith, within, lengths) in
    let in_into : i < length into = omega (arith, in_old, ap length c.loop-i.invariant.0, length-joined_first join i old others) in
    let as_before : s ≡ slice_index_or old i d = ap (λ l. slice_index_or l i d) c.loop-i.invariant.0 ∙ joined_first-next join i old others d in
    let there : t ≡ slice_index_or others i t = c.index-others-i.is in
    let joined : new ≡ join s t = c.in_ok-join_in.ensures.ok in
    let shape : g.L.Lattice.same_shape s t =
    subst (λ u. g.L.Lattice.same_shape s u) (sym there)
    (subst (λ u. g.L.Lattice.same_shape u (slice_index_or others i t)) (sym as_before) (related-at g.L.Lattice.same_shape old others i d t c.requires within)) in
    let is_s : g.L.Lattice.is_state s = subst g.L.Lattice.is_state (get_or_default into i c.index-into-i.result d in_into) c.known-in-loop-i.ensures in
    let is_t : g.L.Lattice.is_state t = c.known.ensures in
    let again : join new (slice_index_or others i t) ≡ join s (slice_index_or others i t) =
    ap (λ u. join new u) (sym there) ∙ ap (λ u. join u t) joined ∙ law.associative s t t is_s is_t is_t shape (law.shape_reflexive t)
    ∙ ap (λ u. join s u) (law.idempotent t is_t) ∙ ap (λ u. join s u) there in
    let more : suc i ≡ i + 1 = omega arith in
    let first : slice_set into i new ≡ joined_first join (i + 1) old others =
    ap (λ l. slice_set l i new) c.loop-i.invariant.0 ∙ ap (λ u. slice_set (joined_first join i old others) i u) (joined ∙ ap (λ u. join u t) as_before ∙ ap (λ u. join (slice_index_or old i d) u) there)
    ∙ joined_first-more join i old others d t in_old within ∙ ap (λ n. joined_first join n old others) more in
    let changed : IsTrue (c.in_ok-join_in.field-0 || c.loop-i.grew) ↔ (slice_set into i new ≢ old) =
    changed-set i into old new d c.loop-i.grew c.in_ok-join_in.field-0 in_into as_before c.loop-i.invariant.2 c.in_ok-join_in.ensures.grew in
    let so_far : c.if-branch.grew ≡ (c.in_ok-join_in.field-0 || c.loop-i.grew) =
    elim c.if-branch.branch [ then-branch w ↦ w.grew-is ∙ ap (λ b. b || c.loop-i.grew) (sym w.if-branch.true) | else-branch w ↦ w.grew-is ∙ ap (λ b. b || c.loop-i.grew) (sym w.if-branch.false) ] in (
      first,
      joined_places-set join i into others new d t within again ∙ c.loop-i.invariant.1,
      subst (λ b. IsTrue b ↔ (slice_set into i new ≢ old)) (sym so_far) changed,
    )

pub returns-clause-ok : goal.returns-clause-ok
returns-clause-ok g c =
    let all : c.loop-i.i ≡ length c.args.others.now = omega (arith, c.loop-i-test.false) in
    c.loop-i.invariant.0 ∙ ap (λ n. joined_first g.L.Lattice.join n c.args.into.now c.args.others.now) all
    ∙ joined_first-all g.L.Lattice.join c.args.into.now c.args.others.now
