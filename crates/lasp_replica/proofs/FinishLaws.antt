-- What the result of a job does to a replica.
use Rattle.std.proofs.Common.{◌≡◌, ℕ, ◌<◌, ◌≤◌, ◌↔◌, Bool, true, false, nat_lt, IsTrue, IsFalse, IsSome, List, [], ◌∷◌, ◌++◌, length, map, take, slice_set, slice_get, slice_index_or, Option, Some, None, refl, sym, ap, subst, ◌∙◌, arith}
use Rattle.std.proofs.lemmas.Bool.Decides.{nat_tests}
use Rattle.std.proofs.lemmas.Option.{get_or_from_slice_get}
use Rattle.std.specs.Arc.{arc_value}
use Rattle.model_values.specs.Row.{Row}
use Rattle.model_sets.specs.Rows.{join, IsAscending, IsAtMost}
use Rattle.model_sets.specs.Equations.{changed}
use Rattle.model_sets.proofs.RowLaws.{ascending-of_rows}
use Rattle.model_states.specs.Content.{Content, IsContentAtMost, at_row, of_set, size_of, row_limit}
use Rattle.model_states.specs.Threshold.{Shape, set, grow, counter, register, fold}
use Rattle.model_graph.specs.Graph.{Decl, Kind, OrSet, GSet, Counter, MaxReg, Union, Product, Intersection, Map, Filter, Fold, is_source, kind_at}
use Rattle.model_graph.specs.Evaluation.{content_at, equation}
use Rattle.model_graph.specs.Lawful.{IsDerived}
use Rattle.model_graph.proofs.PlaceLaws.{at-map, at-map-low, map-length}
use Rattle.model_runs.specs.Held.{IsHeld}
use Rattle.model_journal.specs.Entry as model
use Rattle.model_journal.specs.Entry.{Frame}
use Rattle.model_journal.specs.Journal.{graph, vals, val}
use Rattle.model_journal.specs.Clean.{base}
use Rattle.model_journal.specs.Legal.{IsLegal}
use Rattle.model_core.specs.Peer.{peer_of}
use Rattle.model_core.proofs.PeerLaws.{graph-bound}
use Rattle.model_core.proofs.BaseLaws.{vals-take, kind-take, derived-take}
use Rattle.model_core.proofs.LegalLaws.{legal-bind}
use Rattle.model_core.proofs.HeldLaws.{held-bind}
use Rattle.lasp_replica.specs.History.{History, AreBelow, grown}
use Rattle.lasp_state.specs.declared.state.State.{State}
use Rattle.lasp_state.specs.State.{content_of, shape_of}
use Rattle.lasp_graph.specs.States.{HasRows, Held, held_of, held_at}
use Rattle.lasp_graph.specs.Evaluated.{process, derived_shape, number_by, second_of}
use Rattle.lasp_replica.specs.declared.job.Job.{Job}
use Rattle.lasp_replica.specs.Asked.{IsAsked, IsGained, has_two}
use Rattle.lasp_replica.specs.Parts.{Base, Parts, AreRowsOf, IsBase, IsBaseAt, IsKept, history_at, news_of, first_input, second_input}
use Rattle.lasp_replica.proofs.KindLaws.{equation-process, shape-derived}
use Rattle.lasp_replica.proofs.PartLaws.{states-long, held-val}
use Rattle.lasp_replica.proofs.OneLaws.{kept-bound-late, kept-bound-still, kept-bound-grown}
use Rattle.lasp_replica.proofs.ReadLaws.{news-by-gain, news-none, process-set}
use Rattle.lasp_replica.specs.declared.process.Process.{Process}
use Rattle.lasp_replica.specs.declared.replica.Replica.{Replica}
use Rattle.lasp_replica.specs.Replica.{base_on, frame_of, entries_of, parts_of, told, seen_process, IsReplica, IsSuited, no_kept, kept_at}
use Rattle.lasp_replica.specs.Jobs.{IsJobOf, IsOwn, IsResultOf}
use Rattle.lasp_replica.specs.Finish.{AreNewsOf, HasRoom, grown_at}
use Rattle.lasp_replica.proofs.ReplicaLaws.{frame-same, replica-kept}
use Rattle.lasp_replica.proofs.SuitLaws.{suited-more}
use Rattle.lasp_replica.specs.declared.entry.Entry.{Entry}

-- ---- places

-- the state that a look-up found
pub held-found : (states : List Held) (i y : ℕ) (s : State) → i ≡ y → slice_get states i ≡ Some (held_of s) → held_at states y ≡ held_of s
held-found states i y s same found = ap (λ (n : ℕ). held_at states n) (sym same) ∙ get_or_from_slice_get states i (held_of s) (held_at [] 0) found

decide : {P : Type 0} (b : Bool) → (IsTrue b → P) → (IsFalse b → P) → P
decide true yes_is no_is = yes_is refl
decide false yes_is no_is = no_is refl

-- ---- a job's variable

pub job-derived : (r : Replica) (job : Job) → IsReplica r → IsJobOf (frame_of r) (entries_of r) job → IsDerived (arc_value r.graph) job.var
job-derived r job is of = subst (λ (g : List Decl). IsDerived g job.var) (sym is.kept.graph) (derived-take (frame_of r) (entries_of r) job.n job.var of.derived)

pub state-there : (r : Replica) → IsReplica r → (y : ℕ) → IsDerived (arc_value r.graph) y → y < length r.states
state-there r is y d = omega (arith, d.declared, states-long (frame_of r) (entries_of r) is.legal (parts_of r) is.kept)

pub history-there : (r : Replica) → IsReplica r → (y : ℕ) → IsDerived (arc_value r.graph) y → y < length r.histories.items
history-there r is y d = omega (arith, d.declared, is.kept.histories_many, map-length told r.histories.items)

pub process-there : (r : Replica) → IsReplica r → (y : ℕ) → IsDerived (arc_value r.graph) y → y < length r.processes.items
process-there r is y d = omega (arith, d.declared, is.kept.bases_many, map-length seen_process r.processes.items)

-- the kind is the one of the journal's graph
kind-here : (r : Replica) (job : Job) → IsReplica r → kind_at (graph (frame_of r) (entries_of r)) job.var ≡ kind_at (arc_value r.graph) job.var
kind-here r job is = ap (λ (g : List Decl). kind_at g job.var) (sym is.kept.graph)

-- and that of the graph with which the job began
own-kind : (r : Replica) (job : Job) → IsReplica r → IsJobOf (frame_of r) (entries_of r) job → IsOwn (frame_of r) (entries_of r) job → kind_at (arc_value job.graph) job.var ≡ kind_at (arc_value r.graph) job.var
own-kind r job is of own =
    ap (λ (g : List Decl). kind_at g job.var) own.graph_is
    ∙ sym (kind-take (frame_of r) (entries_of r) job.n job.var of.derived.declared)
    ∙ ap (λ (g : List Decl). kind_at g job.var) (sym is.kept.graph)

-- ---- shapes

derived-rows : (k : Kind) → IsFalse (is_source k) → HasRows (derived_shape k)
derived-rows OrSet e = cc
derived-rows GSet e = cc
derived-rows Counter e = cc
derived-rows MaxReg e = cc
derived-rows (Union x y) e = tt
derived-rows (Product x y) e = tt
derived-rows (Intersection x y) e = tt
derived-rows (Map x place ops) e = tt
derived-rows (Filter x place ops) e = tt
derived-rows (Fold x op place lift) e = tt

pub held-shape : (r : Replica) → IsReplica r → (y : ℕ) → IsDerived (arc_value r.graph) y → (held_at r.states y).shape ≡ derived_shape (kind_at (arc_value r.graph) y)
held-shape r is y d = is.kept.shapes y d.declared ∙ shape-derived (frame_of r).nodes (kind_at (arc_value r.graph) y) d.process

pub held-rows : (r : Replica) → IsReplica r → (y : ℕ) → IsDerived (arc_value r.graph) y → HasRows (held_at r.states y).shape
held-rows r is y d = subst HasRows (sym (held-shape r is y d)) (derived-rows (kind_at (arc_value r.graph) y) d.process)

pub result-shape : (r : Replica) (job : Job) (s : State) → IsReplica r → IsJobOf (frame_of r) (entries_of r) job → IsResultOf (frame_of r) (entries_of r) job s → shape_of s ≡ (held_at r.states job.var).shape
result-shape r job s is of res = res.state_is.shape ∙ ap derived_shape (kind-here r job is) ∙ sym (held-shape r is job.var (job-derived r job is of))

pub result-rows : (r : Replica) (job : Job) (s : State) → IsReplica r → IsJobOf (frame_of r) (entries_of r) job → IsResultOf (frame_of r) (entries_of r) job s → HasRows (shape_of s)
result-rows r job s is of res = subst HasRows (sym (result-shape r job s is of res)) (held-rows r is job.var (job-derived r job is of))

-- ---- what the result is

pub result-is : (r : Replica) (job : Job) (s : State) → IsReplica r → IsJobOf (frame_of r) (entries_of r) job → IsResultOf (frame_of r) (entries_of r) job s
    → content_of s ≡ equation (kind_at (arc_value r.graph) job.var) (vals (frame_of r) (take job.n (entries_of r)))
result-is r job s is of res =
    res.state_is.content
    ∙ ap (λ (k : Kind). process k (content_of (arc_value job.inputs.first)) (content_of (second_of job.inputs))) same
    ∙ (λ i. process k (first i) (second i))
    ∙ sym (equation-process k (vals (frame_of r) (take job.n (entries_of r)))) where
      k : Kind
      k = kind_at (arc_value r.graph) job.var

      same : kind_at (graph (frame_of r) (entries_of r)) job.var ≡ k
      same = kind-here r job is

      first : content_of (arc_value job.inputs.first) ≡ content_at (vals (frame_of r) (take job.n (entries_of r))) (first_input k)
      first = of.inputs.first ∙ ap (λ (j : Kind). content_at (vals (frame_of r) (take job.n (entries_of r))) (first_input j)) same

      second : content_of (second_of job.inputs) ≡ content_at (vals (frame_of r) (take job.n (entries_of r))) (second_input k)
      second = of.inputs.second ∙ ap (λ (j : Kind). content_at (vals (frame_of r) (take job.n (entries_of r))) (second_input j)) same

pub result-small : (r : Replica) (job : Job) (s : State) → IsReplica r → IsJobOf (frame_of r) (entries_of r) job → IsResultOf (frame_of r) (entries_of r) job s
    → size_of (equation (kind_at (graph (frame_of r) (entries_of r)) job.var) (vals (frame_of r) (take job.n (entries_of r)))) ≤ row_limit
result-small r job s is of res =
    subst (λ (c : Content). size_of c ≤ row_limit)
    (result-is r job s is of res ∙ ap (λ (g : List Decl). equation (kind_at g job.var) (vals (frame_of r) (take job.n (entries_of r)))) is.kept.graph) res.small

-- ---- the rows that it brings

-- what is new of the rows that the job gained is what is new of the result
pub gained-news : (r : Replica) (job : Job) (s : State) → IsReplica r → IsJobOf (frame_of r) (entries_of r) job → IsResultOf (frame_of r) (entries_of r) job s → (gain : List Row)
    → IsOwn (frame_of r) (entries_of r) job → IsGained (kind_at (arc_value job.graph) job.var) job.inputs (arc_value job.before) (Some gain) → IsAscending gain
    → changed (held_at r.states job.var).content.rows gain ≡ changed (held_at r.states job.var).content.rows (content_of s).rows
gained-news r job s is of res gain own gained ascends =
    sym (news-by-gain old present gain low ascends (ascending-of_rows (old ++ gain))) ∙ ap (changed present) joins where
      old : List Row
      old = (content_of (arc_value job.before)).rows

      present : List Row
      present = (held_at r.states job.var).content.rows

      joins : join old gain ≡ (content_of s).rows
      joins =
          gained
          ∙ ap (λ (k : Kind). (process k (content_of (arc_value job.inputs.first)) (content_of (second_of job.inputs))).rows) (own-kind r job is of own ∙ sym (kind-here r job is))
          ∙ ap (λ (c : Content). c.rows) (sym res.state_is.content)

      held : (held_at r.states job.var).content ≡ val (frame_of r) (entries_of r) job.var
      held = held-val (frame_of r) (entries_of r) (parts_of r) is.kept job.var

      below : IsContentAtMost (content_of (arc_value job.before)) (held_at r.states job.var).content
      below = subst (λ (c : Content). IsContentAtMost c (held_at r.states job.var).content) (sym own.before_is)
          (subst (λ (c : Content). IsContentAtMost (val (frame_of r) (take job.n (entries_of r)) job.var) c) (sym held) (vals-take (frame_of r) (entries_of r) job.n job.var))

      low : IsAtMost old present
      low v w = below (at_row v w)

pub news-of-set : (shape : Shape) (s t : Content) → shape ≡ set → changed s.rows t.rows ≡ news_of shape s t
news-of-set shape s t e = subst (λ (f : Shape). changed s.rows t.rows ≡ news_of f s t) (sym e) refl

pub news-of-other : (shape : Shape) (s t : Content) → (shape ≡ set → ⊥) → [] ≡ news_of shape s t
news-of-other set s t apart = absurd (apart refl)
news-of-other grow s t apart = refl
news-of-other (counter nodes) s t apart = refl
news-of-other register s t apart = refl
news-of-other fold s t apart = refl

some-counted : (n : ℕ) → 0 < n → IsTrue (nat_lt 0 n)
some-counted n more = grind (arith, nat_tests)

pub none-counted : (rows : List Row) (n : ℕ) → n ≡ length rows → IsFalse (nat_lt 0 n) ↔ (rows ≡ [])
none-counted [] n e = (λ _. refl, λ _. subst (λ (m : ℕ). IsFalse (nat_lt 0 m)) (sym e) refl)
none-counted (r ∷ rows) n e = (λ none. let more : IsTrue (nat_lt 0 n) = some-counted n (omega (arith, e)) in cc, λ none. cc)

-- whether it grows is whether there are such rows
grows-by : (r : Replica) (job : Job) (s : State) → IsReplica r → IsJobOf (frame_of r) (entries_of r) job → IsResultOf (frame_of r) (entries_of r) job s → (rows : List Row) (n : ℕ)
    → rows ≡ changed (held_at r.states job.var).content.rows (content_of s).rows → n ≡ length rows → IsFalse (nat_lt 0 n) ↔ IsContentAtMost (content_of s) (held_at r.states job.var).content
grows-by r job s is of res rows n e many = (
  λ still. (news-none old (content_of s) flat).0 (sym e ∙ (none-counted rows n many).0 still),
  λ low. (none-counted rows n many).1 (e ∙ (news-none old (content_of s) flat).1 low),
) where
  old : Content
  old = (held_at r.states job.var).content

  flat : content_of s ≡ of_set (content_of s).rows
  flat =
      res.state_is.content
      ∙ process-set (kind_at (graph (frame_of r) (entries_of r)) job.var) (content_of (arc_value job.inputs.first)) (content_of (second_of job.inputs))
      ∙ ap (λ (c : Content). of_set c.rows) (sym res.state_is.content)

pub news-of-a-set : (r : Replica) (job : Job) (s : State) → IsReplica r → IsJobOf (frame_of r) (entries_of r) job → IsResultOf (frame_of r) (entries_of r) job s → (rows : List Row) (n : ℕ)
    → rows ≡ changed (held_at r.states job.var).content.rows (content_of s).rows → n ≡ length rows → shape_of s ≡ set → AreNewsOf (held_at r.states job.var) s (nat_lt 0 n) rows
news-of-a-set r job s is of res rows n e many shape = record {
  still = grows-by r job s is of res rows n e many;
  rows_are = e ∙ news-of-set (held_at r.states job.var).shape (held_at r.states job.var).content (content_of s) (sym (result-shape r job s is of res) ∙ shape);
}

pub news-of-a-fold : (r : Replica) (job : Job) (s : State) → IsReplica r → IsJobOf (frame_of r) (entries_of r) job → IsResultOf (frame_of r) (entries_of r) job s → (rows : List Row) (n : ℕ)
    → rows ≡ changed (held_at r.states job.var).content.rows (content_of s).rows → n ≡ length rows → (shape_of s ≡ set → ⊥) → (none : List Row) → none ≡ []
    → AreNewsOf (held_at r.states job.var) s (nat_lt 0 n) none
news-of-a-fold r job s is of res rows n e many shape none empty = record {
  still = grows-by r job s is of res rows n e many;
  rows_are = empty ∙ news-of-other (held_at r.states job.var).shape (held_at r.states job.var).content (content_of s) (λ p. shape (result-shape r job s is of res ∙ p));
}

-- ---- what a process read

pub base-read : (r : Replica) → IsReplica r → (y : ℕ) → IsDerived (arc_value r.graph) y → (o d : Option Process) → o ≡ slice_index_or r.processes.items y d
    → IsBaseAt (frame_of r) (entries_of r) (kind_at (arc_value r.graph) y) y (seen_process o)
base-read r is y d o e there =
    subst (IsBaseAt (frame_of r) (entries_of r) (kind_at (arc_value r.graph) y) y)
    (at-map-low seen_process r.processes.items y e None (process-there r is y d) ∙ ap seen_process (sym there)) (is.kept.bases y d.declared)

pub no-base : (r : Replica) → IsReplica r → (y : ℕ) → IsDerived (arc_value r.graph) y → IsBaseAt (frame_of r) (entries_of r) (kind_at (arc_value r.graph) y) y None → ⊥
no-base r is y d source = let derived : IsFalse (is_source (kind_at (arc_value r.graph) y)) = d.process in cc

some-of : (r : Replica) → IsReplica r → (y : ℕ) → IsDerived (arc_value r.graph) y → (o : Option Process) → IsBaseAt (frame_of r) (entries_of r) (kind_at (arc_value r.graph) y) y (seen_process o) → IsSome o
some-of r is y d None at = absurd (no-base r is y d at)
some-of r is y d (Some p) at = refl

pub process-some : (r : Replica) → IsReplica r → (y : ℕ) → IsDerived (arc_value r.graph) y → IsSome (slice_index_or r.processes.items y None)
process-some r is y d = some-of r is y d (slice_index_or r.processes.items y None) (base-read r is y d (slice_index_or r.processes.items y None) None refl)

-- ---- the entry

abbrev pub bind_entry : ℕ → ℕ → ℕ → model.Entry
bind_entry by y n = record { by = by; act = model.Bind y n }

abbrev pub bound_entries : ℕ → ℕ → ℕ → Replica → List model.Entry
bound_entries by y n r = entries_of r ++ bind_entry by y n ∷ []

-- variable y may be bound to its inputs as they were after the first n entries
pub record MayBind (r : Replica) (y n : ℕ) : Type 0 where
  pub within : n ≤ length (entries_of r)
  pub derived : IsDerived (graph (frame_of r) (take n (entries_of r))) y
  pub small : size_of (equation (kind_at (graph (frame_of r) (entries_of r)) y) (vals (frame_of r) (take n (entries_of r)))) ≤ row_limit

-- a job's may, where its result isn't too large
pub may-job : (r : Replica) (job : Job) → IsJobOf (frame_of r) (entries_of r) job → size_of (equation (kind_at (graph (frame_of r) (entries_of r)) job.var) (vals (frame_of r) (take job.n (entries_of r)))) ≤ row_limit
    → MayBind r job.var job.n
may-job r job of small = record { within = of.within; derived = of.derived; small = small }

bind-derived : (r : Replica) (y n : ℕ) → IsReplica r → MayBind r y n → IsDerived (arc_value r.graph) y
bind-derived r y n is may = subst (λ (g : List Decl). IsDerived g y) (sym is.kept.graph) (derived-take (frame_of r) (entries_of r) n y may.derived)

bound-legal : (r : Replica) (by y n : ℕ) → IsReplica r → MayBind r y n → IsLegal (frame_of r) (bound_entries by y n r)
bound-legal r by y n is may = legal-bind (frame_of r) (entries_of r) is.legal (bind_entry by y n) y n refl may.within may.derived may.small

bound-held : (r : Replica) (by y n : ℕ) → IsReplica r → MayBind r y n → IsHeld (length r.counts) (arc_value r.graph) (peer_of (frame_of r) (bound_entries by y n r))
bound-held r by y n is may =
    subst (λ (g : List Decl). IsHeld (length r.counts) g (peer_of (frame_of r) (bound_entries by y n r)))
    (graph-bound (frame_of r) (entries_of r) (bind_entry by y n) y n refl ∙ sym is.kept.graph)
    (held-bind (frame_of r) (entries_of r) is.legal (subst (λ (g : List Decl). IsHeld (length r.counts) g (peer_of (frame_of r) (entries_of r))) is.kept.graph is.held)
    (bind_entry by y n) y n refl (derived-take (frame_of r) (entries_of r) n y may.derived))

-- what stays the same in a replica that takes in a result
pub record IsSameFrame (old new : Replica) : Type 0 where
  pub graph : arc_value new.graph ≡ arc_value old.graph
  pub opening : new.opening ≡ old.opening
  pub me : new.me ≡ old.me
  pub counts : new.counts ≡ old.counts

bound-replica : (old new : Replica) (by y n : ℕ) → IsReplica old → MayBind old y n → IsSameFrame old new → entries_of new ≡ bound_entries by y n old → IsKept (frame_of old) (bound_entries by y n old) (parts_of new)
    → (v : Entry) → new.journal.items ≡ old.journal.items ++ v ∷ [] → IsSuited (length old.counts) (arc_value old.graph) v → IsReplica new
bound-replica old new by y n is may same entries kept v items fits =
    replica-kept (frame_of old) (bound_entries by y n old) new (frame-same old new same.opening same.me (ap length same.counts) same.graph) entries kept
    (bound-legal old by y n is may)
    (subst (λ (g : List Decl). IsHeld (length old.counts) g (peer_of (frame_of old) (bound_entries by y n old))) (sym same.graph) (bound-held old by y n is may))
    (subst (λ (g : List Decl). new.opening ≤ length g) (sym same.graph) (subst (λ (n : ℕ). n ≤ length (arc_value old.graph)) (sym same.opening) is.opened))
    (subst (λ (cs : List ℕ). length cs ≤ 8) (sym same.counts) is.few)
    (suited-more old new v (ap length same.counts) same.graph items is.suited fits)

-- ---- a late result

pub late-replica : (old new : Replica) (by : ℕ) (job : Job) → IsReplica old → IsJobOf (frame_of old) (entries_of old) job
    → size_of (equation (kind_at (graph (frame_of old) (entries_of old)) job.var) (vals (frame_of old) (take job.n (entries_of old)))) ≤ row_limit
    → job.n ≤ base (frame_of old) (entries_of old) job.var → IsSameFrame old new → entries_of new ≡ bound_entries by job.var job.n old → parts_of new ≡ parts_of old
    → (v : Entry) → new.journal.items ≡ old.journal.items ++ v ∷ [] → IsSuited (length old.counts) (arc_value old.graph) v → IsReplica new
late-replica old new by job is of small late same entries parts v items fits =
    bound-replica old new by job.var job.n is (may-job old job of small) same entries
    (subst (IsKept (frame_of old) (bound_entries by job.var job.n old)) (sym parts)
    (kept-bound-late (frame_of old) (entries_of old) is.legal (bind_entry by job.var job.n) job.var job.n refl (parts_of old) is.kept (job-derived old job is of) late))
    v items fits

-- ---- a result that is taken in

-- the replica in which variable y has this state and has read this, by a bind that is written down
pub record IsBound (by y n : ℕ) (s : Held) (b : Base) (grows : Bool) (old new : Replica) : Type 0 where
  pub same : IsSameFrame old new
  pub states : new.states ≡ slice_set old.states y s
  pub grew : IsTrue grows → map told new.histories.items ≡ slice_set (map told old.histories.items) y (grown_at old.histories.items y (length old.journal.items))
  pub stood : IsFalse grows → map told new.histories.items ≡ map told old.histories.items
  pub bases : map seen_process new.processes.items ≡ slice_set (map seen_process old.processes.items) y (Some b)
  pub entries : entries_of new ≡ bound_entries by y n old

-- the state is that of variable y on its inputs as they were after the first n entries, and this is what it read
pub record IsReadTo (r : Replica) (y n : ℕ) (s : Held) (b : Base) : Type 0 where
  pub content : s.content ≡ equation (kind_at (arc_value r.graph) y) (vals (frame_of r) (take n (entries_of r)))
  pub shape : s.shape ≡ (held_at r.states y).shape
  pub number : s.number ≡ number_by (kind_at (arc_value r.graph) y) s.content
  pub entries : b.entries ≡ n
  pub base : IsBase (kind_at (arc_value r.graph) y) (vals (frame_of r) (take n (entries_of r))) b

-- whether variable y grows by this content, and that the rows of the growth are made ready
pub record IsReadyFor (y : ℕ) (c : Content) (grows : Bool) (r : Replica) : Type 0 where
  pub still : IsFalse grows ↔ IsContentAtMost c (held_at r.states y).content
  pub pending : AreRowsOf (news_of (held_at r.states y).shape (held_at r.states y).content c) (kept_at r.histories.items y).pending

pub bound-to : (old new : Replica) (by y n : ℕ) (s : Held) (b : Base) (grows : Bool) → IsReplica old → MayBind old y n → IsReadTo old y n s b
    → base (frame_of old) (entries_of old) y ≤ n → IsReadyFor y s.content grows old → IsBound by y n s b grows old new
    → (v : Entry) → new.journal.items ≡ old.journal.items ++ v ∷ [] → IsSuited (length old.counts) (arc_value old.graph) v → IsReplica new
bound-to old new by y n s b grows is may read early ready bound v items fits =
    bound-replica old new by y n is may bound.same bound.entries (decide grows larger still) v items fits where
      X : Frame
      X = frame_of old

      h : List model.Entry
      h = entries_of old

      e : model.Entry
      e = bind_entry by y n

      p : Parts
      p = parts_of old

      derived : IsDerived p.graph y
      derived = bind-derived old y n is may

      long : length h ≡ length old.journal.items
      long = map-length _ old.journal.items

      grown_is : grown_at old.histories.items y (length old.journal.items) ≡ grown (history_at p.histories y) (kept_at old.histories.items y).pending (length h)
      grown_is i = grown (sym (at-map told old.histories.items y no_kept) i) (kept_at old.histories.items y).pending (sym long i)

      larger : IsTrue grows → IsKept X (h ++ e ∷ []) (parts_of new)
      larger more = subst (IsKept X (h ++ e ∷ []))
          (λ i. record { graph = sym bound.same.graph i; counts = sym bound.same.counts i; states = sym bound.states i; histories = sym (bound.grew more ∙ ap (slice_set p.histories y) grown_is) i; bases = sym bound.bases i })
          (kept-bound-grown X h is.legal e y n refl p is.kept derived early may.within s read.content read.shape read.number
          b read.entries read.base (λ low. let stands : IsFalse grows = ready.still.1 low in cc) (kept_at old.histories.items y).pending ready.pending)

      still : IsFalse grows → IsKept X (h ++ e ∷ []) (parts_of new)
      still none = subst (IsKept X (h ++ e ∷ []))
          (λ i. record { graph = sym bound.same.graph i; counts = sym bound.same.counts i; states = sym bound.states i; histories = sym (bound.stood none) i; bases = sym bound.bases i })
          (kept-bound-still X h is.legal e y n refl p is.kept derived early may.within s read.content read.shape read.number
          b read.entries read.base (ready.still.0 none))

job-base : (r : Replica) (job : Job) → IsReplica r → IsJobOf (frame_of r) (entries_of r) job → IsAsked (arc_value job.graph) job.var job.inputs job.base (arc_value job.before) job.first job.second
    → IsBase (kind_at (arc_value r.graph) job.var) (vals (frame_of r) (take job.n (entries_of r))) (base_on job.n (Some job.inputs))
job-base r job is of asked = record {
  first = of.inputs.first ∙ ap (λ (k : Kind). content_at (vals (frame_of r) (take job.n (entries_of r))) (first_input k)) same;
  second = of.inputs.second ∙ ap (λ (k : Kind). content_at (vals (frame_of r) (take job.n (entries_of r))) (second_input k)) same;
  first_set = asked.first_input.shape;
  second_set = asked.second_input.shape;
  two = of.inputs.two ∙ ap has_two same;
} where
  same : kind_at (graph (frame_of r) (entries_of r)) job.var ≡ kind_at (arc_value r.graph) job.var
  same = kind-here r job is

pub bind-replica : (old new : Replica) (by : ℕ) (job : Job) (s : State) (grows : Bool) → IsReplica old → IsJobOf (frame_of old) (entries_of old) job → IsResultOf (frame_of old) (entries_of old) job s
    → IsAsked (arc_value job.graph) job.var job.inputs job.base (arc_value job.before) job.first job.second
    → base (frame_of old) (entries_of old) job.var < job.n → HasRoom job.var s grows old → IsBound by job.var job.n (held_of s) (base_on job.n (Some job.inputs)) grows old new
    → (v : Entry) → new.journal.items ≡ old.journal.items ++ v ∷ [] → IsSuited (length old.counts) (arc_value old.graph) v → IsReplica new
bind-replica old new by job s grows is of res asked later room bound v items fits =
    bound-to old new by job.var job.n (held_of s) (base_on job.n (Some job.inputs)) grows is (may-job old job of (result-small old job s is of res)) (record {
      content = result-is old job s is of res;
      shape = result-shape old job s is of res;
      number = res.state_is.number ∙ ap (λ (k : Kind). number_by k (content_of s)) (kind-here old job is);
      entries = refl;
      base = job-base old job is of asked;
    }) (omega (arith, later)) (record { still = room.still; pending = room.pending }) bound v items fits

-- the growths of a variable's history happened before the entry that comes next
pub growths-below : (r : Replica) → IsReplica r → (y : ℕ) → IsDerived (arc_value r.graph) y → AreBelow (length r.journal.items) (kept_at r.histories.items y).history.growths
growths-below r is y d =
    subst (λ (n : ℕ). AreBelow n (kept_at r.histories.items y).history.growths) (map-length _ r.journal.items)
    (subst (λ (h : History). AreBelow (length (entries_of r)) h.growths) (at-map told r.histories.items y no_kept) (is.kept.histories y d.declared).below)
