-- A derived variable that is brought up to its inputs in place.
use Rattle.std.proofs.Common.{◌≡◌, ℕ, ℤ, pos, suc, cond, ◌+◌, ◌<◌, ◌≤◌, ◌↔◌, nat_le, nat_lt, Bool, true, false, IsTrue, IsFalse, List, [], ◌∷◌, ◌++◌, length, map, take, slice_set, Option, Some, None, is_some, IfSome, Result, Ok, Err, IfOk, slice_get, get_or, refl, sym, ap, subst, ◌∙◌, arith, length-append}
use Rattle.std.proofs.lemmas.Bool.Decides.{nat_tests}
use Rattle.std.proofs.lemmas.Bool.{leb-true}
use Rattle.std.proofs.lemmas.List.{take_all, map-append}
use Rattle.std.specs.Arc.{arc_value}
use Rattle.model_values.specs.Row.{Row}
use Rattle.model_sets.specs.Rows.{join, of_rows, mark, level, IsAscending}
use Rattle.model_sets.specs.Equations.{changed}
use Rattle.model_sets.specs.Rises.{AreRises}
use Rattle.model_sets.proofs.RowLaws.{ascending-join, at_most-refl}
use Rattle.model_sets.proofs.RiseLaws.{join-news}
use Rattle.model_states.specs.Content.{Content, IsContentAtMost, join_contents, of_set, size_of, row_limit}
use Rattle.model_states.specs.Threshold.{set}
use Rattle.model_graph.specs.Graph.{Decl, Kind, OrSet, GSet, Counter, MaxReg, Union, Product, Intersection, Map, Filter, Fold, is_set, kind_at}
use Rattle.model_graph.specs.Evaluation.{content_at, equation}
use Rattle.model_graph.specs.Lawful.{IsDerived}
use Rattle.model_graph.specs.Increment.{IsChange}
use Rattle.model_graph.proofs.PlaceLaws.{map-length}
use Rattle.model_journal.specs.Entry as model
use Rattle.model_journal.specs.Entry.{Frame}
use Rattle.model_journal.specs.Journal.{graph, vals, val}
use Rattle.model_journal.specs.Clean.{base}
use Rattle.model_core.proofs.BaseLaws.{base-within}
use Rattle.lasp_state.specs.declared.state.State.{State}
use Rattle.lasp_state.specs.State.{content_of}
use Rattle.lasp_graph.specs.States.{Held, held_of, held_at, contents_of, extended}
use Rattle.lasp_graph.specs.Evaluated.{inputs_of, process, derived_shape, number_by, second_of}
use Rattle.lasp_graph.specs.Delta.{IsStateBefore}
use Rattle.lasp_graph.specs.declared.inputs.Inputs.{Inputs}
use Rattle.lasp_graph.proofs.SourceLists.{held-content}
use Rattle.lasp_replica.specs.Asked.{has_two}
use Rattle.lasp_replica.specs.History.{History}
use Rattle.lasp_replica.specs.Kept.{Kept}
use Rattle.lasp_replica.specs.Parts.{AreRowsOf, IsBase, history_at, news_of, first_input, second_input}
use Rattle.lasp_replica.specs.Reading.{HasChanged, IsEarlierInput, IsSmallSet, rows_since}
use Rattle.lasp_replica.specs.Jobs.{AreShared, unread}
use Rattle.lasp_replica.specs.Update.{recorded}
use Rattle.lasp_replica.specs.Replica.{base_on, frame_of, entries_of, parts_of, seen_process, jobs_of, told, IsReplica, Goes, Stays}
use Rattle.lasp_replica.specs.Unread.{second_rows, rows_with, AreGiven, IsUnread, AreInputsNow, IsUpToDate, AreNew, IsTakenOn}
use Rattle.lasp_replica.specs.declared.unread.Unread.{Unread}
use Rattle.lasp_replica.specs.declared.entry.Act.TheVariants.{Bind}
use Rattle.lasp_replica.specs.declared.entry.Entry.{Entry}
use Rattle.lasp_replica.specs.declared.replica.Replica.{Replica}
use Rattle.lasp_replica.specs.Entries.{entry_of}
use Rattle.lasp_replica.proofs.ReplicaLaws.{frame-same}
use Rattle.lasp_replica.proofs.PartLaws.{held-val}
use Rattle.lasp_replica.proofs.KindLaws.{equation-process}
use Rattle.lasp_replica.proofs.ReadLaws.{kept-inputs, kept-based, kept-base, kept-changed, kept-old, kept-width, news-by-gain, news-none}
use Rattle.lasp_replica.proofs.SettledLaws.{AreInputs, inputs-from, inputs-known, histories-many, history-found}
use Rattle.lasp_replica.proofs.SizeLaws.{size-set}
use Rattle.lasp_logset.proofs.WholeLaws.{few-rows}
use Rattle.lasp_replica.proofs.TakeLaws.{one-alike}
use Rattle.lasp_replica.proofs.UpdateLaws.{stays}
use Rattle.lasp_replica.proofs.FinishLaws.{held-found, IsBound, IsReadTo, MayBind, bind_entry, bound-to, held-shape, news-of-set, news-of-other, none-counted}

module _ (r : Replica) (is : IsReplica r) (y : ℕ) (d : IsDerived (arc_value r.graph) y) where
  abbrev X : Frame
  X = frame_of r

  abbrev h : List model.Entry
  h = entries_of r

  abbrev k : Kind
  k = kind_at (arc_value r.graph) y

  kind : kind_at (graph (frame_of r) (entries_of r)) y ≡ kind_at (arc_value r.graph) y
  kind = ap (λ (g : List Decl). kind_at g y) (sym is.kept.graph)

  -- ---- what changed in the inputs

  change : (x : ℕ) → x < length (arc_value r.graph) → IsTrue (is_set (kind_at (arc_value r.graph) x))
      → HasChanged (val (frame_of r) (take (base (frame_of r) (entries_of r) y) (entries_of r)) x) (held_at r.states x).content (rows_since (history_at (parts_of r).histories x) (base (frame_of r) (entries_of r) y))
  change x low flat = kept-changed X h (parts_of r) is.kept x low flat (base X h y) (base-within X h is.legal y)

  -- the rows that a history tells since the variable last read an input are those that changed
  since-is : (x : ℕ) → x < length (arc_value r.graph) → IsTrue (is_set (kind_at (arc_value r.graph) x)) → rows_since (history_at (parts_of r).histories x) (base (frame_of r) (entries_of r) y) ≡ unread (frame_of r) (entries_of r) y x
  since-is x low flat = (change x low flat).rows_are ∙ ap (λ (c : Content). changed (val X (take (base X h y) h) x).rows c.rows) (held-val X h (parts_of r) is.kept x)

  module _ (x z : ℕ) (i : AreInputs r y x z) where
    first-at : first_input (kind_at (graph (frame_of r) (entries_of r)) y) ≡ x
    first-at = ap first_input kind ∙ i.first_is

    second-at : second_input (kind_at (graph (frame_of r) (entries_of r)) y) ≡ z
    second-at = ap second_input kind ∙ i.second_is

    pub is-unread : (n : ℕ) → n ≡ base (frame_of r) (entries_of r) y → (first : List Row) (second : Option (List Row)) → first ≡ rows_since (history_at (parts_of r).histories x) n → is_some second ≡ has_two (kind_at (arc_value r.graph) y)
        → IfSome second (λ rows. rows ≡ rows_since (history_at (parts_of r).histories z) n) → IsUnread (frame_of r) (entries_of r) y (record { first = first; second = second })
    is-unread n based first second first_is two second_is = record {
      first = own;
      second = choose second two second_is;
      two = two ∙ ap has_two (sym kind);
    } where
      own : first ≡ unread X h y (first_input (kind_at (graph X h) y))
      own = first_is ∙ ap (rows_since (history_at (parts_of r).histories x)) based ∙ since-is x i.first_earlier.declared i.first_earlier.set ∙ ap (unread X h y) (sym first-at)

      choose : (o : Option (List Row)) → is_some o ≡ has_two k → IfSome o (λ rows. rows ≡ rows_since (history_at (parts_of r).histories z) n)
          → second_rows (record { first = first; second = o }) ≡ unread X h y (second_input (kind_at (graph X h) y))
      choose None one f = own ∙ ap (unread X h y) (first-at ∙ one-alike r y x z k i refl (sym one) ∙ sym second-at)
      choose (Some rows) two f = f ∙ ap (rows_since (history_at (parts_of r).histories z)) based ∙ since-is z i.second_earlier.declared i.second_earlier.set ∙ ap (unread X h y) (sym second-at)

    -- ---- the variable before they changed

    process-flat : (k : Kind) (s t : Content) → process k s t ≡ process k (of_set s.rows) (of_set t.rows)
    process-flat OrSet s t = refl
    process-flat GSet s t = refl
    process-flat Counter s t = refl
    process-flat MaxReg s t = refl
    process-flat (Union a b) s t = refl
    process-flat (Product a b) s t = refl
    process-flat (Intersection a b) s t = refl
    process-flat (Map a place ops) s t = refl
    process-flat (Filter a place ops) s t = refl
    process-flat (Fold a op place lift) s t = refl

    abbrev before : List Content
    before = vals (frame_of r) (take (base (frame_of r) (entries_of r) y) (entries_of r))

    old-content : (held_at r.states y).content ≡ process (kind_at (arc_value r.graph) y) (of_set (content_at before x).rows) (of_set (content_at before z).rows)
    old-content =
        let based = kept-based X h (parts_of r) is.kept y d in
        (kept-old X h is.legal (parts_of r) is.kept y d based.0 based.1).equation_is
        ∙ ap (λ (n : ℕ). equation k (vals X (take n h))) (kept-base X h (parts_of r) is.kept y d.declared based.0 based.1)
        ∙ equation-process k before ∙ process-flat k (content_at before (first_input k)) (content_at before (second_input k))
        ∙ (λ j. process k (of_set (content_at before (i.first_is j)).rows) (of_set (content_at before (i.second_is j)).rows))

    pub was-before : (g : List Decl) (v : ℕ) (old first second : State) (u : Unread) (more : List Row) → kind_at (arc_value r.graph) y ≡ kind_at g v → held_of old ≡ held_at r.states y → held_of first ≡ held_at r.states x → held_of second ≡ held_at r.states z
        → IsUnread (frame_of r) (entries_of r) y u → more ≡ second_rows u → IsStateBefore (kind_at g v) u.first (content_of first).rows more (content_of second).rows old
    was-before g v old first second u more same old_is first_is second_is fresh more_is = subst (λ (j : Kind). IsStateBefore j u.first (content_of first).rows more (content_of second).rows old) same (record {
      first = (content_at before x).rows;
      second = (content_at before z).rows;
      first_grown = grown x i.first_earlier.declared i.first_earlier.set first first_is u.first (fresh.first ∙ ap (unread X h y) first-at);
      second_grown = grown z i.second_earlier.declared i.second_earlier.set second second_is more (more_is ∙ fresh.second ∙ ap (unread X h y) second-at);
      state = record {
        shape = ap (λ (w : Held). w.shape) old_is ∙ held-shape r is y d;
        content = ap (λ (w : Held). w.content) old_is ∙ old-content;
        number = ap (λ (w : Held). w.number) old_is ∙ is.kept.numbers y d ∙ ap (λ (w : Held). number_by k w.content) (sym old_is);
      };
    }) where
      grown : (w : ℕ) → w < length (arc_value r.graph) → IsTrue (is_set (kind_at (arc_value r.graph) w)) → (s : State) → held_of s ≡ held_at r.states w → (rows : List Row) → rows ≡ unread X h y w
          → IsChange (content_at before w).rows rows (content_of s).rows
      grown w low flat s s_is rows rows_is =
          subst (λ (t : List Row). IsChange (content_at before w).rows t (content_of s).rows) (since-is w low flat ∙ sym rows_is)
          (subst (λ (t : Held). IsChange (content_at before w).rows (rows_since (history_at (parts_of r).histories w) (base X h y)) t.content.rows) (sym s_is) (change w low flat).change)

    -- what the process gives on its inputs as they are
    pub on-inputs : (g : List Decl) (v : ℕ) (first second : State) → kind_at (arc_value r.graph) y ≡ kind_at g v → held_of first ≡ held_at r.states x → held_of second ≡ held_at r.states z
        → process (kind_at g v) (content_of first) (content_of second) ≡ equation (kind_at (arc_value r.graph) y) (contents_of r.states)
    on-inputs g v first second same first_is second_is =
        (λ j. process (sym same j) (first_is j).content (second_is j).content)
        ∙ (λ j. process k (sym (held-content r.states (sym i.first_is j)) j) (sym (held-content r.states (sym i.second_is j)) j))
        ∙ sym (equation-process k (contents_of r.states))

  -- ---- the rows that it gains

  pub number-of-set : (k : Kind) (c : Content) → derived_shape k ≡ set → number_by k c ≡ pos 0
  number-of-set OrSet c e = refl
  number-of-set GSet c e = refl
  number-of-set Counter c e = refl
  number-of-set MaxReg c e = refl
  number-of-set (Union a b) c e = refl
  number-of-set (Product a b) c e = refl
  number-of-set (Intersection a b) c e = refl
  number-of-set (Map a place ops) c e = refl
  number-of-set (Filter a place ops) c e = refl
  number-of-set (Fold a op place lift) c e = cc

  -- a set's number is none
  pub set-number : (n : ℤ) (c : Content) → n ≡ number_by (kind_at (arc_value r.graph) y) c → (held_at r.states y).shape ≡ set → n ≡ pos 0
  set-number n c e shape = e ∙ number-of-set k c (sym (held-shape r is y d) ∙ shape)

-- ---- what a replica has of a variable

-- the rows of each change of a variable's history tell more than those before
pub rises-there : (r : Replica) → IsReplica r → (x : ℕ) → x < length (arc_value r.graph) → (k : Kept) → k ≡ get_or r.histories.items x k → AreRises [] k.history.log
rises-there r is x low k there = subst (λ (h : History). AreRises [] h.log) (history-found r x k (omega (arith, low, histories-many r is)) there) (is.kept.histories x low).rises

-- a state that a look-up found
pub held-there : (states : List Held) (i y : ℕ) (s t : State) → i ≡ y → slice_get states i ≡ Some (held_of s) → t ≡ s → held_of t ≡ held_at states y
held-there states i y s t same found e = sym (held-found states i y t same (found ∙ ap (λ (z : State). Some (held_of z)) (sym e)))

pub inputs-of-var : (r : Replica) → IsReplica r → (y : ℕ) → IsDerived (arc_value r.graph) y → (g : List Decl) (v : ℕ) (k : Kind) (o : Option (ℕ × ℕ)) (x z : ℕ) → g ≡ arc_value r.graph → v ≡ y → kind_at g v ≡ k → o ≡ inputs_of k → o ≡ Some (x, z) → AreInputs r y x z
inputs-of-var r is y d g v k o x z a b c e f = inputs-known r is y d x z (inputs-from (arc_value r.graph) g v y k o (x, z) a b c e f)

-- an input is a set that is within the limits
pub first-small : (r : Replica) → IsReplica r → (y x z : ℕ) → AreInputs r y x z → (s : State) → held_of s ≡ held_at r.states x → IsSmallSet (held_of s)
first-small r is y x z i s e = subst IsSmallSet (sym e) (kept-width (frame_of r) (entries_of r) is.legal (parts_of r) is.kept x i.first_earlier.declared i.first_earlier.set)

pub second-small : (r : Replica) → IsReplica r → (y x z : ℕ) → AreInputs r y x z → (s : State) → held_of s ≡ held_at r.states z → IsSmallSet (held_of s)
second-small r is y x z i s e = subst IsSmallSet (sym e) (kept-width (frame_of r) (entries_of r) is.legal (parts_of r) is.kept z i.second_earlier.declared i.second_earlier.set)

-- inputs that share those as they are
pub shared-now : {E : Type 0} (o : Result Inputs E) (r : Replica) (y x z : ℕ) → AreInputs r y x z → (k : Kind) → kind_at (arc_value r.graph) y ≡ k → (inputs : Inputs) → held_of (arc_value inputs.first) ≡ held_at r.states x → held_of (second_of inputs) ≡ held_at r.states z
    → is_some inputs.second ≡ has_two k → IfOk o (AreShared inputs) → IfOk o (AreInputsNow r y)
shared-now (Ok copy) r y x z i k e inputs first second two same = record {
  first = same.first ∙ first ∙ ap (held_at r.states) (sym i.first_is);
  second = same.second ∙ second ∙ ap (held_at r.states) (sym i.second_is);
  two = same.two ∙ two ∙ ap has_two (sym e);
}
shared-now (Err w) r y x z i k e inputs first second two same = tt

more-than : (b : Bool) (n : ℕ) → b ≡ nat_le n row_limit → b ≡ false → row_limit < n
more-than b n e f = grind (arith, nat_tests, e, f)

as-many : (b : Bool) (n : ℕ) → b ≡ nat_le n row_limit → b ≡ true → n ≤ row_limit
as-many b n e t = leb-true n row_limit (sym e ∙ t)

-- what is new of rows is new
pub are-new : (h : Held) (gain rows : List Row) → IsAscending gain → rows ≡ changed h.content.rows gain → AreNew h rows
are-new h gain rows up is =
    let s = h.content.rows in
    is ∙ sym (news-by-gain s s gain (at_most-refl s) up (ascending-join s gain)) ∙ ap (changed s) (sym (join-news s gain) ∙ ap (join s) (sym is))

-- a variable that has the rows that its inputs give is up to date, where they aren't too many
pub up-to-date : (r : Replica) (y : ℕ) (rows : List Row) (number : ℤ) → AreGiven r y rows
    → number ≡ number_by (kind_at (arc_value r.graph) y) (equation (kind_at (arc_value r.graph) y) (contents_of r.states)) → length (rows_with r y rows) ≤ row_limit → IsUpToDate r y (extended (held_at r.states y) rows number)
up-to-date r y rows number whole number_is few = record {
  content = sym whole;
  number = number_is ∙ ap (number_by (kind_at (arc_value r.graph) y)) whole;
  small = omega (arith, size-set (held_at r.states y).content.rows rows, few);
}

-- too many rows are too many of the process
pub too-large : (r : Replica) (y : ℕ) (rows : List Row) → AreGiven r y rows → row_limit < length (rows_with r y rows)
    → row_limit < size_of (equation (kind_at (arc_value r.graph) y) (contents_of r.states))
too-large r y rows whole many = subst (λ (c : Content). row_limit < size_of c) (sym whole) (omega (arith, size-set (held_at r.states y).content.rows rows, many))

-- the rows that a state lacks fit where all fit that bring them
module _ (s gain new : List Row) (is : new ≡ changed s gain) where
  pub join-new : join s new ≡ join s gain
  join-new = ap (join s) is ∙ join-news s gain

  pub new-fit : (few : Bool) → few ≡ nat_le (size_of (join_contents (of_set s) (of_set new))) row_limit → few ≡ true → length (join s gain) ≤ row_limit
  new-fit few few_is fits = omega (arith, size-set s new, as-many few (size_of (join_contents (of_set s) (of_set new))) few_is fits, ap (λ (rows : List Row). length rows) join-new)

  pub new-many : (few : Bool) → few ≡ nat_le (size_of (join_contents (of_set s) (of_set new))) row_limit → few ≡ false → row_limit < length (join s gain)
  new-many few few_is many = omega (arith, size-set s new, more-than few (size_of (join_contents (of_set s) (of_set new))) few_is many, ap (λ (rows : List Row). length rows) join-new)

-- few rows fit, whatever there is of them
pub few-fit : (s rows : List Row) → length s + length rows ≤ row_limit → length (join s (of_rows rows)) ≤ row_limit
few-fit s rows few = omega (arith, few, few-rows (s ++ of_rows rows), length-append s (of_rows rows), few-rows rows)

-- no more rows are new than there are
pub few-new : (s rows new : List Row) → new ≡ changed s (of_rows rows) → length new ≤ length rows
few-new s rows new is = omega (arith, ap (λ (t : List Row). length t) is, shorter (of_rows rows), few-rows rows) where
  shorter : (t : List Row) → length (changed s t) ≤ length t
  shorter [] = omega arith
  shorter (r ∷ t) = choose (nat_lt (mark s r.0.0 r.0.1) (level r.1)) (shorter t) where
    choose : (b : Bool) → length (changed s t) ≤ length t → length (cond b (r ∷ changed s t) (changed s t)) ≤ suc (length t)
    choose true rest = omega (arith, rest)
    choose false rest = omega (arith, rest)

-- ---- the rows taken on

pub grows-is : (h : Held) (rows : List Row) (number : ℤ) (n : ℕ) → AreNew h rows → n ≡ length rows → IsFalse (nat_lt 0 n) ↔ IsContentAtMost (extended h rows number).content h.content
grows-is h rows number n new many = (
  λ still. (news-none h.content (extended h rows number).content refl).0 (sym new ∙ (none-counted rows n many).0 still),
  λ low. (none-counted rows n many).1 (new ∙ (news-none h.content (extended h rows number).content refl).1 low),
)

pub told-of-set : (h : Held) (rows : List Row) (number : ℤ) → AreNew h rows → h.shape ≡ set → rows ≡ news_of h.shape h.content (extended h rows number).content
told-of-set h rows number new shape = new ∙ news-of-set h.shape h.content (extended h rows number).content shape

pub told-of-fold : (h : Held) (rows : List Row) (number : ℤ) (none : List Row) → none ≡ [] → (h.shape ≡ set → ⊥) → none ≡ news_of h.shape h.content (extended h rows number).content
told-of-fold h rows number none empty shape = empty ∙ news-of-other h.shape h.content (extended h rows number).content shape

-- rows that were joined in, some of which were new
module _ (h : Held) (gain new : List Row) (number : ℤ) (up : IsAscending gain) (is : new ≡ changed h.content.rows gain) where
  new-in : new ≡ changed h.content.rows (extended h gain number).content.rows
  new-in = is ∙ sym (news-by-gain h.content.rows h.content.rows gain (at_most-refl h.content.rows) up (ascending-join h.content.rows gain))

  pub grows-by : (n : ℕ) → n ≡ length new → IsFalse (nat_lt 0 n) ↔ IsContentAtMost (extended h gain number).content h.content
  grows-by n many = (
    λ still. (news-none h.content (extended h gain number).content refl).0 (sym new-in ∙ (none-counted new n many).0 still),
    λ low. (none-counted new n many).1 (new-in ∙ (news-none h.content (extended h gain number).content refl).1 low),
  )

  pub told-by-set : (rows : List Row) → h.shape ≡ set → AreRowsOf new rows → AreRowsOf (news_of h.shape h.content (extended h gain number).content) rows
  told-by-set rows shape of = subst (λ (news : List Row). AreRowsOf news rows) (new-in ∙ news-of-set h.shape h.content (extended h gain number).content shape) of

  pub told-by-fold : (rows : List Row) → (h.shape ≡ set → ⊥) → rows ≡ [] → AreRowsOf (news_of h.shape h.content (extended h gain number).content) rows
  told-by-fold rows shape none = subst (λ (news : List Row). AreRowsOf news rows) (news-of-other h.shape h.content (extended h gain number).content shape)
      (subst (AreRowsOf []) (sym none) (record { made = refl; apart = tt }))

  pub told-by : (b : Bool) (rows before : List Row) → IsTrue b ↔ (h.shape ≡ set) → (IsTrue b → AreRowsOf new rows) → (IsFalse b → rows ≡ before) → before ≡ [] → AreRowsOf (news_of h.shape h.content (extended h gain number).content) rows
  told-by true rows before shape some none empty = told-by-set rows (shape.0 refl) (some refl)
  told-by false rows before shape some none empty = told-by-fold rows (λ e. let both : false ≡ true = shape.1 e in cc) (none refl ∙ empty)

-- the state with the rows that were new is that with all
pub extended-new : (h : Held) (gain new : List Row) (number : ℤ) → new ≡ changed h.content.rows gain → extended h new number ≡ extended h gain number
extended-new h gain new number is = ap (λ (rows : List Row). record { shape = h.shape; content = of_set rows; number = number }) (join-new h.content.rows gain new is)

-- ---- the bind

-- the replica after the bind is written down
pub record IsWritten (by y n : ℕ) (grows : Bool) (inputs : Option Inputs) (taken new : Replica) : Type 0 where
  pub graph : arc_value new.graph ≡ arc_value taken.graph
  pub opening : new.opening ≡ taken.opening
  pub me : new.me ≡ taken.me
  pub counts : new.counts ≡ taken.counts
  pub states : new.states ≡ taken.states
  pub histories : map told new.histories.items ≡ recorded grows y n taken.histories.items
  pub bases : map seen_process new.processes.items ≡ slice_set (map seen_process taken.processes.items) y (Some (base_on n inputs))
  pub busy : map jobs_of new.processes.items ≡ map jobs_of taken.processes.items
  pub journal : new.journal.items ≡ taken.journal.items ++ record { by = by; what = Bind y n } ∷ []

-- the replica as it was before a variable's state was taken on, but for memory that was made ready
abbrev before_it : Replica → Replica → Replica
before_it old taken = record { graph = taken.graph; opening = taken.opening; me = taken.me; counts = taken.counts; states = old.states; histories = taken.histories; processes = taken.processes; journal = taken.journal }

module _ (old taken new : Replica) (is : IsReplica old) (by y : ℕ) (d : IsDerived (arc_value old.graph) y) (s : Held) (inputs : Option Inputs) (grows : Bool) (n : ℕ) where
  pub settled : s.shape ≡ (held_at old.states y).shape → IsUpToDate old y s → IfSome inputs (AreInputsNow old y) → IsTakenOn y s grows old taken → n ≡ length taken.journal.items → IsWritten by y n grows inputs taken new
      → Goes (model.entry by (model.Bind y (length (entries_of old)))) old new
  settled shape up now on many written = record {
    sound = bound-to mid new by y n s (base_on n inputs) grows kept.sound may read early (record { still = on.still; pending = on.pending }) bound _ written.journal tt;
    frame = frame-same mid new written.opening written.me (ap length written.counts) written.graph ∙ kept.frame;
    entries = entries ∙ (λ j. kept.entries j ++ bind_entry by y (long j) ∷ []);
    busy = written.busy ∙ kept.busy;
  } where
    mid : Replica
    mid = before_it old taken

    kept : Stays old (before_it old taken)
    kept = stays old (before_it old taken) is on.graph on.opening on.me on.counts refl on.histories (ap (map seen_process) on.processes) (ap (map jobs_of) on.processes) on.entries

    X : Frame
    X = frame_of (before_it old taken)

    h : List model.Entry
    h = entries_of (before_it old taken)

    g : List Decl
    g = arc_value (before_it old taken).graph

    k : Kind
    k = kind_at (arc_value (before_it old taken).graph) y

    derived : IsDerived (arc_value (before_it old taken).graph) y
    derived = subst (λ (l : List Decl). IsDerived l y) (sym on.graph) d

    long : n ≡ length (entries_of old)
    long = omega (arith, many, ap (λ (es : List Entry). length es) on.entries, map-length entry_of old.journal.items)

    here : n ≡ length (entries_of (before_it old taken))
    here = long ∙ ap (λ (es : List model.Entry). length es) (sym kept.entries)

    whole : take n (entries_of (before_it old taken)) ≡ entries_of (before_it old taken)
    whole = take_all n (entries_of (before_it old taken)) (omega (arith, here))

    kinds : kind_at (arc_value old.graph) y ≡ kind_at (arc_value (before_it old taken).graph) y
    kinds = ap (λ (l : List Decl). kind_at l y) (sym on.graph)

    contents : contents_of old.states ≡ vals (frame_of (before_it old taken)) (take n (entries_of (before_it old taken)))
    contents = kept.sound.kept.contents ∙ ap (vals X) (sym whole)

    content : s.content ≡ equation (kind_at (arc_value (before_it old taken).graph) y) (vals (frame_of (before_it old taken)) (take n (entries_of (before_it old taken))))
    content = up.content ∙ (λ j. equation (kinds j) (contents j))

    may : MayBind (before_it old taken) y n
    may = record {
      within = omega (arith, here);
      derived = subst (λ (l : List model.Entry). IsDerived (graph X l) y) (sym whole) (subst (λ (l : List Decl). IsDerived l y) kept.sound.kept.graph derived);
      small = subst (λ (c : Content). size_of c ≤ row_limit) (content ∙ ap (λ (l : List Decl). equation (kind_at l y) (vals X (take n h))) kept.sound.kept.graph) up.small;
    }

    at : (w : ℕ) → (held_at old.states w).content ≡ content_at (vals (frame_of (before_it old taken)) (take n (entries_of (before_it old taken)))) w
    at w = sym (held-content old.states w) ∙ ap (λ (cs : List Content). content_at cs w) contents

    both : IsEarlierInput (arc_value (before_it old taken).graph) y (first_input (kind_at (arc_value (before_it old taken).graph) y)) × IsEarlierInput (arc_value (before_it old taken).graph) y (second_input (kind_at (arc_value (before_it old taken).graph) y))
    both = kept-inputs X h kept.sound.legal (parts_of (before_it old taken)) kept.sound.kept y derived

    keep : (o : Option Inputs) → IfSome o (AreInputsNow old y) → IsBase (kind_at (arc_value (before_it old taken).graph) y) (vals (frame_of (before_it old taken)) (take n (entries_of (before_it old taken)))) (base_on n o)
    keep None none = tt
    keep (Some here) same = record {
      first = ap (λ (w : Held). w.content) same.first ∙ ap (λ (j : Kind). (held_at old.states (first_input j)).content) kinds ∙ at (first_input k);
      second = ap (λ (w : Held). w.content) same.second ∙ ap (λ (j : Kind). (held_at old.states (second_input j)).content) kinds ∙ at (second_input k);
      first_set = ap (λ (w : Held). w.shape) same.first ∙ ap (λ (j : Kind). (held_at old.states (first_input j)).shape) kinds
          ∙ (kept-width X h kept.sound.legal (parts_of (before_it old taken)) kept.sound.kept (first_input k) both.0.declared both.0.set).shape;
      second_set = ap (λ (w : Held). w.shape) same.second ∙ ap (λ (j : Kind). (held_at old.states (second_input j)).shape) kinds
          ∙ (kept-width X h kept.sound.legal (parts_of (before_it old taken)) kept.sound.kept (second_input k) both.1.declared both.1.set).shape;
      two = same.two ∙ ap has_two kinds;
    }

    read : IsReadTo (before_it old taken) y n s (base_on n inputs)
    read = record {
      content = content;
      shape = shape;
      number = up.number ∙ ap (λ (j : Kind). number_by j s.content) kinds;
      entries = refl;
      base = keep inputs now;
    }

    early : base (frame_of (before_it old taken)) (entries_of (before_it old taken)) y ≤ n
    early = omega (arith, here, base-within X h kept.sound.legal y)

    entries : entries_of new ≡ entries_of (before_it old taken) ++ bind_entry by y n ∷ []
    entries = ap (map entry_of) written.journal ∙ map-append entry_of taken.journal.items _

    bound : IsBound by y n s (base_on n inputs) grows (before_it old taken) new
    bound = record {
      same = record { graph = written.graph; opening = written.opening; me = written.me; counts = written.counts };
      states = written.states ∙ on.states;
      grew = λ more. written.histories ∙ (λ j. recorded (more j) y (many j) taken.histories.items);
      stood = λ none. written.histories ∙ (λ j. recorded (none j) y n taken.histories.items);
      bases = written.bases;
      entries = entries;
    }
