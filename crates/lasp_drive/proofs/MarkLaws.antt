-- Laws of what is known of who holds a mark.
use Rattle.std.proofs.Common.{◌≡◌, ℕ, ◌<◌, IsTrue, List, [], ◌∷◌, ◌++◌, length, map, slice_get, slice_set, slice_index_or, Some, zero, suc, arith, refl, sym, ap, subst, ◌∙◌}
use Rattle.std.specs.List.{AllByRecursion, Contains, list_any}
use Rattle.std.proofs.lemmas.Bool.Decides.{nat_tests}
use Rattle.std.specs.Arc.{arc_value}
use Rattle.std.proofs.lemmas.List.{length-map}
use Rattle.model_states.specs.Content.{Content, join_contents, least, is_content_at_most}
use Rattle.model_states.specs.Threshold as model
use Rattle.model_states.specs.Update.{Join}
use Rattle.model_states.proofs.ContentLaws.{at_most-same, at_most-from-test, join-right, join-below, test-from-at_most}
use Rattle.model_states.proofs.DeltaLaws.{shape-counts}
use Rattle.model_graph.specs.Graph.{Kind, is_source, kind_at}
use Rattle.model_graph.specs.Lawful as lawful
use Rattle.model_graph.specs.Evaluation.{content_at}
use Rattle.model_graph.proofs.PlaceLaws as places
use Rattle.model_runs.proofs.EachLaws.{each-append, each-weaker}
use Rattle.model_runs.proofs.SourceLaws.{source-shape, source-ordered}
use Rattle.model_wire.specs.Lawful.{IsSource}
use Rattle.model_world.specs.World as world
use Rattle.model_world.specs.Lawful.{IsMarkOf, MayAsk}
use Rattle.model_world.specs.World.{Marked, Peer, mark_at, updated}
use Rattle.model_core.specs.Known.{HasLeast}
use Rattle.std.specs.Prelude.{is_ok, Result, Ok, Err, if◌then◌else◌, ◌==◌, ◌||◌, Bool, true, false}
use Rattle.std.specs.declared.sync.Arc.{Arc}
use Rattle.std.specs.declared.alloc.Global.{Global}
use Rattle.lasp_state.specs.declared.state.State.{State}
use Rattle.lasp_state.specs.State.{content_of, shape_of}
use Rattle.lasp_drive.specs.Node.{NodeView, ShowsNoMore}
use Rattle.lasp_drive.specs.Reads.{Grows}
use Rattle.lasp_drive.specs.Marks.{marked_of, HoldsMark, HoldsMarkAt, HoldMarks, AllGrow, IsHeldAt, IsNoted}
use Rattle.lasp_drive.specs.Play.{IsLeastHeld}
use Rattle.lasp_drive.specs.Driver.{DriverView, stage_of}
use Rattle.lasp_script.specs.Command.{until_of}
use Rattle.lasp_script.specs.declared.command.Until.{Until}
use Rattle.lasp_script.specs.declared.command.Until.TheVariants.{AtLeast, Above, Count, Added, Removed}
use Rattle.lasp_drive.specs.declared.driver.Mark.{Mark}
use Rattle.lasp_drive.proofs.NodeLaws.{at-set, same-set, mapped-or}

-- ---- nodes that show at least what they showed

pub grow-none : (nodes : List NodeView) → AllGrow nodes nodes
grow-none nodes p n at = (n, at, λ x threshold met. met, refl)

pub grow-set : (nodes : List NodeView) (p : ℕ) (n new : NodeView) → slice_get nodes p ≡ Some n → Grows n.shown new.shown → new.sent ≡ n.sent → AllGrow nodes (slice_set nodes p new)
grow-set nodes p n new at more sent = at-set (λ q m. (k : NodeView) × (slice_get nodes q ≡ Some k) × Grows k.shown m.shown × (m.sent ≡ k.sent)) nodes p new (λ q m _ there. (m, there, λ x threshold met. met, refl)) (n, at, more, sent)

pub grow-then : (old mid new : List NodeView) → AllGrow old mid → AllGrow mid new → AllGrow old new
grow-then old mid new first second p n at =
    let one = second p n at in
    let two = first p one.0 one.1 in
    (two.0, two.1, λ x threshold met. one.2 x threshold (two.2 x threshold met), one.3 ∙ two.3)

-- the same, whether they sent anything or not
abbrev pub AllShow : List NodeView → List NodeView → Type 0
AllShow old new = (p : ℕ) (n : NodeView) → slice_get new p ≡ Some n → (m : NodeView) × (slice_get old p ≡ Some m) × Grows m.shown n.shown

pub show-set : (nodes : List NodeView) (p : ℕ) (n new : NodeView) → slice_get nodes p ≡ Some n → Grows n.shown new.shown → AllShow nodes (slice_set nodes p new)
show-set nodes p n new at more = at-set (λ q m. (k : NodeView) × (slice_get nodes q ≡ Some k) × Grows k.shown m.shown) nodes p new (λ q m _ there. (m, there, λ x threshold met. met)) (n, at, more)

-- ---- marks that they hold

holds-shown : (old new : List NodeView) (m : Mark) (p : ℕ) → AllShow old new → HoldsMarkAt old m p → HoldsMarkAt new m p
holds-shown old new m p show holds n at =
    let was = show p n at in
    was.2 m.var (model.AtLeast model.set (content_of (arc_value m.state))) (holds was.0 was.1)

pub marks-shown : (old new : List NodeView) (marks : List Mark) → AllShow old new → HoldMarks old marks → HoldMarks new marks
marks-shown old new marks show =
    each-weaker (λ (m : Mark). AllByRecursion (HoldsMarkAt old m) m.known.items) (λ (m : Mark). AllByRecursion (HoldsMarkAt new m) m.known.items)
    (λ m held. each-weaker (HoldsMarkAt old m) (HoldsMarkAt new m) (λ p holds. holds-shown old new m p show holds) m.known.items held) marks

pub marks-grow : (old new : List NodeView) (marks : List Mark) → AllGrow old new → HoldMarks old marks → HoldMarks new marks
marks-grow old new marks grow = marks-shown old new marks (λ p n at. let was = grow p n at in (was.0, was.1, was.2))

pub marks-more : (nodes : List NodeView) (marks : List Mark) (m : Mark) → HoldMarks nodes marks → AllByRecursion (HoldsMarkAt nodes m) m.known.items → HoldMarks nodes (marks ++ m ∷ [])
marks-more nodes marks m held one = each-append (λ (m : Mark). AllByRecursion (HoldsMarkAt nodes m) m.known.items) marks (m ∷ []) held (one, tt)

-- one of them
pub holds-one : {X : Type 0} (P : X → Type 0) (xs : List X) (k : ℕ) (x : X) → AllByRecursion P xs → slice_get xs k ≡ Some x → P x
holds-one P [] k x all at = absurd cc
holds-one P (y ∷ xs) zero x all at = subst P (let both : Some y ≡ Some x = at in cc) all.0
holds-one P (y ∷ xs) (suc k) x all at = holds-one P xs k x all.1 at

-- there is one at each place
pub at-place : {X : Type 0} (xs : List X) (k : ℕ) → k < length xs → (x : X) × (slice_get xs k ≡ Some x)
at-place [] k low = absurd (omega (arith, low))
at-place (y ∷ xs) zero low = (y, refl)
at-place (y ∷ xs) (suc k) low = at-place xs k (omega (arith, low))

contained-one : (P : ℕ → Type 0) (xs : List ℕ) (x k : ℕ) → AllByRecursion P xs → k < length xs → slice_index_or xs k x ≡ x → P x
contained-one P [] x k all low is = absurd (omega (arith, low))
contained-one P (y ∷ xs) x zero all low is = subst P is all.0
contained-one P (y ∷ xs) x (suc k) all low is = contained-one P xs x k all.1 (omega (arith, low)) is

-- a number that a test finds is in the list
pub found-contained : (xs : List ℕ) (p : ℕ) → IsTrue (list_any (λ y. y == p) xs) → Contains xs p
found-contained [] p e = absurd (let both : false ≡ true = e in cc)
found-contained (x ∷ xs) p e = choose (x == p) refl (found-contained xs p) e where
  choose : (b : Bool) → (x == p) ≡ b → (IsTrue (list_any (λ y. y == p) xs) → Contains xs p) → (b || list_any (λ y. y == p) xs) ≡ true → Contains (x ∷ xs) p
  choose true same rest found = (zero, omega arith, let is : x ≡ p = grind (arith, nat_tests, same) in is)
  choose false other rest found = let there = rest found in (suc there.0, omega (arith, there.1), there.2)

-- a node that is told to hold a mark does
pub mark-held : (nodes : List NodeView) (marks : List Mark) (k p : ℕ) (m : Mark) (n : NodeView) → HoldMarks nodes marks → slice_get marks k ≡ Some m → Contains m.known.items p → slice_get nodes p ≡ Some n → HoldsMark n m
mark-held nodes marks k p m n held there known at =
    contained-one (HoldsMarkAt nodes m) m.known.items p known.0 (holds-one (λ (m : Mark). AllByRecursion (HoldsMarkAt nodes m) m.known.items) marks k m held there) known.1 known.2 n at

-- ---- what is noted

pub noted-same : (marks : List Mark) (k p : ℕ) → IsNoted marks k p marks
noted-same marks k p = record { marked = refl; vars = refl; held = λ nodes holds held. held }

all-set : {X : Type 0} (P : X → Type 0) (xs : List X) (k : ℕ) (y : X) → AllByRecursion P xs → P y → AllByRecursion P (slice_set xs k y)
all-set P [] k y all here = tt
all-set P (x ∷ xs) zero y all here = (here, all.1)
all-set P (x ∷ xs) (suc k) y all here = (all.0, all-set P xs k y all.1 here)

-- a node was added to those of a mark, or none
pub noted-set : (marks : List Mark) (k p : ℕ) (m new : Mark) → slice_get marks k ≡ Some m → new.var ≡ m.var → new.state ≡ m.state → ((P : ℕ → Type 0) → AllByRecursion P m.known.items → P p → AllByRecursion P new.known.items) → IsNoted marks k p (slice_set marks k new)
noted-set marks k p m new there var state known = record {
  marked = same-set marked_of marks k m new there (ap (λ (s : Arc State Global). record { shape = shape_of (arc_value s); content = content_of (arc_value s) }) state);
  vars = same-set (λ (m : Mark). m.var) marks k m new there var;
  held = λ nodes holds held.
      let alike : (q : ℕ) → HoldsMarkAt nodes m q → HoldsMarkAt nodes new q = λ q h n at.
      subst (λ (x : ℕ). IsTrue (is_content_at_most (content_of (arc_value new.state)) (content_at n.shown x))) (sym var)
      (subst (λ (s : Arc State Global). IsTrue (is_content_at_most (content_of (arc_value s)) (content_at n.shown m.var))) (sym state) (h n at)) in
      let were = holds-one (λ (m : Mark). AllByRecursion (HoldsMarkAt nodes m) m.known.items) marks k m held there in
      all-set (λ (m : Mark). AllByRecursion (HoldsMarkAt nodes m) m.known.items) marks k new held
      (known (HoldsMarkAt nodes new) (each-weaker (HoldsMarkAt nodes m) (HoldsMarkAt nodes new) alike m.known.items were) (alike p (holds m there)));
}

-- what a push leaves, whether there was room or not
pub all-pushed : {A E : Type 0} (P : ℕ → Type 0) (r : Result A E) (old new : List ℕ) (p : ℕ) → new ≡ (if is_ok r then old ++ p ∷ [] else old) → AllByRecursion P old → P p → AllByRecursion P new
all-pushed P (Ok a) old new p is all here = subst (AllByRecursion P) (sym is) (each-append P old (p ∷ []) all (here, tt))
all-pushed P (Err e) old new p is all here = subst (AllByRecursion P) (sym is) all

-- ---- a node that was marked or bound

-- what a node's replica holds of a source it shows
pub mark-shown : (n : NodeView) (m : Mark) → ShowsNoMore n → m.var < length n.decls → IsTrue (is_source (kind_at n.decls m.var)) → IsTrue (is_content_at_most (content_of (arc_value m.state)) (content_at n.peer.contents m.var)) → HoldsMark n m
mark-shown n m shows low source holds = subst (λ (s : Content). IsTrue (is_content_at_most (content_of (arc_value m.state)) s)) (sym (shows.sources m.var low source)) holds

-- a source that was marked
pub kept-held : (s t : Content) → s ≡ t → IsTrue (is_content_at_most s t)
kept-held s t same = test-from-at_most s t (at_most-same s t same)

-- a source into which a mark was joined
pub joined-held : (number x : ℕ) (s : Content) (peer : Peer) → x < length peer.contents → IsTrue (is_content_at_most s (content_at (updated number x (Join s) peer).contents x))
joined-held number x s peer low =
    let now = content_at peer.contents x in
    let is : content_at (updated number x (Join s) peer).contents x ≡ join_contents now s =
    places.at-set (λ (c : Content). c ≡ join_contents now s) peer.contents x (join_contents now s) least x low (λ _. refl) (λ apart. absurd (apart refl)) in
    subst (λ (c : Content). IsTrue (is_content_at_most s c)) (sym is) (test-from-at_most s (join_contents now s) (join-right now s))

-- a state that a source holds already brings it nothing
pub idle-source : (nodes : ℕ) (k : Kind) (s t : Content) → IsSource nodes k s → IsSource nodes k t → IsTrue (is_content_at_most t s) → join_contents s t ≡ s
idle-source nodes k s t source other most =
    join-below s t (source-ordered nodes k s source) (omega (arith, shape-counts (lawful.shape_of nodes k) s t (source-shape nodes k s source) (source-shape nodes k t other))) (at_most-from-test t s most)

-- ---- thresholds of marks

-- the variable of a mark
pub mark-var : (marks : List Mark) (k x : ℕ) (m : Mark) → slice_index_or (map (λ (m : Mark). m.var) marks) k 0 ≡ x → slice_get marks k ≡ Some m → m.var ≡ x
mark-var marks k x m is there = sym (mapped-or (λ (m : Mark). m.var) marks k m 0 there) ∙ is

-- what a command asks for at least, a node shows that is told to hold its mark
pub least-held : (d : DriverView) (many p x : ℕ) (n : NodeView) (until : Until) → HoldMarks d.nodes d.marks → slice_get d.nodes p ≡ Some n → MayAsk many (stage_of d) x (until_of until) → IsLeastHeld d.marks until p
    → HasLeast (world.threshold_of (map marked_of d.marks) (until_of until)) (content_at n.shown x)
least-held d many p x n until held at may known = here until may known where
  kept : (k : ℕ) → IsMarkOf (stage_of d) x k → IsHeldAt d.marks k p → IsTrue (is_content_at_most (mark_at (map marked_of d.marks) k).content (content_at n.shown x))
  kept k of known =
      let m = at-place d.marks k (omega (arith, of.0, length-map d.marks (λ (m : Mark). m.var))) in
      subst (λ (w : Marked). IsTrue (is_content_at_most w.content (content_at n.shown x))) (sym (mapped-or marked_of d.marks k m.0 world.no_mark m.1))
      (subst (λ (y : ℕ). IsTrue (is_content_at_most (content_of (arc_value m.0.state)) (content_at n.shown y))) (mark-var d.marks k x m.0 of.1 m.1) (mark-held d.nodes d.marks k p m.0 n held m.1 (known m.0 m.1) at))

  here : (u : Until) → MayAsk many (stage_of d) x (until_of u) → IsLeastHeld d.marks u p → HasLeast (world.threshold_of (map marked_of d.marks) (until_of u)) (content_at n.shown x)
  here (AtLeast k) of known = kept k of known
  here (Above k) of known = kept k of known
  here (Count count) of known = tt
  here (Added vs) of known = tt
  here (Removed vs) of known = tt
