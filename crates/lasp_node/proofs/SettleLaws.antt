-- Which variable is next in an idle core, and what its bind leaves clean.
use Rattle.std.proofs.Common.{ℕ, ◌≡◌, ◌+◌, ◌≤◌, ◌<◌, ◌⊎◌, inl, inr, Bool, true, false, not, cond, if◌then◌else◌, IsTrue, nat_lt, filter, refl, sym, ap, subst, ◌∙◌, append-nil, append_assoc, arith}
use Rattle.std.specs.Prelude.{List, [], ◌∷◌, ◌++◌, length, drop, None}
use Rattle.std.proofs.lemmas.List.{length-append, drop_at}
use Rattle.std.specs.List.{AllByRecursion}
use Rattle.std.proofs.lemmas.Bool.Decides.{nat_tests}
use Rattle.model_graph.specs.Graph.{Decl}
use Rattle.model_graph.specs.Evaluation.{eval, first_large}
use Rattle.model_graph.specs.Lawful.{IsDerived}
use Rattle.model_journal.specs.Entry.{Bind, Entry, Frame, entry}
use Rattle.model_journal.specs.Journal.{graph, vals, sources}
use Rattle.model_journal.specs.Clean.{IsClean, applied, version}
use Rattle.model_journal.specs.Legal.{IsLegal}
use Rattle.model_world.specs.World.{Peer}
use Rattle.model_core.specs.Core.{Core, IsCore, IsParked, Read, is_met, entered}
use Rattle.model_core.proofs.CleanLaws.{clean-before, clean-after-bind, settled-small}
use Rattle.model_core.proofs.PeerLaws.{graph-bound, peer-bound}
use Rattle.model_core.proofs.ReadLaws.{all-kept, met-stays}
use Rattle.model_journal.proofs.CleanLaws.{all-clean}
use Rattle.lasp_replica.proofs.OneLaws.{same-or-apart}
use Rattle.lasp_replica.specs.Jobs.{IsUnclean, greatest_count, counted_up, unread_rows}
use Rattle.lasp_replica.specs.Unread.{IsUnread, rows_in}
use Rattle.lasp_replica.specs.declared.unread.Unread.{Unread}
use Rattle.lasp_core.specs.Core.{owing, IsSettled}
use Rattle.lasp_node.specs.Settling.{IsIdle, AreCleanBelow, AreBinds, HasBoundIn, HasBound, rows_behind, rows_bound, rows_since}

-- ---- which variable is next

same-else : (m n : ℕ) → ((m ≡ n → ⊥) → ⊥) → m ≡ n
same-else m n h = choose (same-or-apart m n) where
  choose : (m ≡ n) ⊎ (m ≡ n → ⊥) → m ≡ n
  choose (inl same) = same
  choose (inr apart) = absurd (h apart)

-- a derived variable that lacks nothing is clean
clean-else : (X : Frame) (h : List Entry) (y : ℕ) → IsDerived (graph X h) y → (IsUnclean X h y → ⊥) → IsClean X h y
clean-else X h y derived not_so x input =
    same-else (applied X h y x) (version X h x) (λ apart. not_so (record { derived = derived; lacks = λ clean. apart (clean x input) }))

-- a variable that lacks something isn't among those that are clean
pub first-late : (c : Core) (n y : ℕ) → AreCleanBelow n c → IsUnclean c.frame c.entries y → n ≤ y
first-late c n y clean lacks = choose (nat_lt y n) refl where
  choose : (b : Bool) → nat_lt y n ≡ b → n ≤ y
  choose true t = absurd (lacks.lacks (clean y (grind (arith, nat_tests, t)) lacks.derived))
  choose false t = grind (arith, nat_tests, t)

-- a variable is next, before which all are clean
pub record IsTurn (c : Core) (n y : ℕ) : Type 0 where
  pub late : n ≤ y
  pub declared : y < length (graph c.frame c.entries)
  pub below : AreCleanBelow y c

pub turn-taken : (c : Core) (n y : ℕ) → y ≤ n → AreCleanBelow n c → IsUnclean c.frame c.entries y → IsTurn c n y
turn-taken c n y reached clean lacks = record {
  late = first-late c n y clean lacks;
  declared = lacks.derived.declared;
  below = λ z low derived. clean z (omega (arith, low, reached)) derived;
}

-- ---- what a core is after a turn

-- of a list of those that pass, the same pass a narrower test as of the whole list
narrower : {A : Type 0} (p q : A → Bool) → ((x : A) → q x ≡ true → p x ≡ true) → (xs : List A) → filter q (filter p xs) ≡ filter q xs
narrower p q pass [] = refl
narrower {A} p q pass (x ∷ xs) = with-rest (narrower p q pass xs) where
  fails : (b : Bool) → q x ≡ b → p x ≡ false → q x ≡ false
  fails true passes off = absurd (let both : true ≡ false = sym (pass x passes) ∙ off in cc)
  fails false is off = is

  with-rest : filter q (filter p xs) ≡ filter q xs → filter q (filter p (x ∷ xs)) ≡ filter q (x ∷ xs)
  with-rest rest = choose (p x) refl where
    choose : (b : Bool) → p x ≡ b → filter q (cond b (x ∷ filter p xs) (filter p xs)) ≡ filter q (x ∷ xs)
    choose true on = ap (λ (ys : List A). cond (q x) (x ∷ ys) ys) rest
    choose false off = rest ∙ sym (ap (λ (b : Bool). cond b (x ∷ filter q xs) (filter q xs)) (fails (q x) refl off))

-- the reads of a core that wait aren't met
all-wait : (X : Frame) (h : List Entry) (reads : List Read) → AllByRecursion (IsParked X h) reads → AllByRecursion (λ r. IsTrue (not (is_met X h r))) reads
all-wait X h [] parked = tt
all-wait X h (r ∷ reads) parked = (ap not parked.0.unmet, all-wait X h reads parked.1)

-- a read that isn't met wasn't met before
unmet-before : (X : Frame) (h more : List Entry) → IsLegal X (h ++ more) → (r : Read) → not (is_met X (h ++ more) r) ≡ true → not (is_met X h r) ≡ true
unmet-before X h more legal r unmet = choose (is_met X h r) refl where
  choose : (b : Bool) → is_met X h r ≡ b → not b ≡ true
  choose true met = ap not (sym (met-stays X h more legal r met)) ∙ unmet
  choose false met = refl

-- binds of variables from a later number on
binds-lower : (low from high place : ℕ) (es : List Entry) → low ≤ from → AreBinds from high place es → AreBinds low high place es
binds-lower low from high place [] before all = tt
binds-lower low from high place (e ∷ es) before all = (all.0, omega (arith, before, all.1), all.2, all.3, all.4)

-- binds of variables below a lesser number
binds-wider : (low high higher place : ℕ) (es : List Entry) → high ≤ higher → AreBinds low high place es → AreBinds low higher place es
binds-wider low high higher place [] within all = tt
binds-wider low high higher place (e ∷ es) within all = (all.0, all.1, omega (arith, within, all.2), all.3, binds-wider (all.0 + 1) high higher (place + 1) es within all.4)

-- binds, and behind them binds of later variables
binds-both : (low mid from high place : ℕ) (es fs : List Entry) → low ≤ from → mid ≤ from → from ≤ high → AreBinds low mid place es → AreBinds from high (place + length es) fs → AreBinds low high place (es ++ fs)
binds-both low mid from high place [] fs before after within own more =
    binds-lower low from high place fs before (subst (λ (n : ℕ). AreBinds from high n fs) (let none : place + length {A = Entry} [] ≡ place = omega arith in none) more)
binds-both low mid from high place (e ∷ es) fs before after within own more =
    (own.0, own.1, omega (arith, own.2, after, within), own.3, binds-both (own.0 + 1) mid from high (place + 1) es fs (omega (arith, own.2, after)) after within own.4 (subst (λ (n : ℕ). AreBinds from high n fs) longer more)) where
      longer : place + length (e ∷ es) ≡ place + 1 + length es
      longer = omega arith

-- a core in which nothing was taken in
pub bound-back : (c new : Core) (y : ℕ) → IsCore c → new ≡ c → IsIdle c.busy → HasBoundIn y (y + 1) c new
bound-back c new y core is idle = subst (λ (d : Core). HasBoundIn y (y + 1) c d) (sym is) (record {
  frame = refl;
  graph_is = refl;
  peer = refl;
  binds = ([], sym (append-nil c.entries), tt);
  parked = sym (all-kept (λ r. not (is_met c.frame c.entries r)) c.parked (all-wait c.frame c.entries c.parked core.parked));
  opened = refl;
  idle = idle;
})

pub bound-start : (c : Core) → IsCore c → IsIdle c.busy → HasBoundIn 0 0 c c
bound-start c core idle = record {
  frame = refl;
  graph_is = refl;
  peer = refl;
  binds = ([], sym (append-nil c.entries), tt);
  parked = sym (all-kept (λ r. not (is_met c.frame c.entries r)) c.parked (all-wait c.frame c.entries c.parked core.parked));
  opened = refl;
  idle = idle;
}

-- a core after binds of some variables is one after binds of these and more
pub bound-wider : (high higher : ℕ) (a b : Core) → high ≤ higher → HasBoundIn 0 high a b → HasBoundIn 0 higher a b
bound-wider high higher a b within bound = record {
  frame = bound.frame;
  graph_is = bound.graph_is;
  peer = bound.peer;
  binds = (bound.binds.0, bound.binds.1, binds-wider 0 high higher (length a.entries) bound.binds.0 within bound.binds.2);
  parked = bound.parked;
  opened = bound.opened;
  idle = bound.idle;
}

-- what is owed changes nothing else
pub bound-owing : (b out c : Core) (y rows : ℕ) → out ≡ owing rows b → HasBoundIn y (y + 1) out c → HasBoundIn y (y + 1) b c
bound-owing b out c y rows is bound = there (subst (λ (d : Core). HasBoundIn y (y + 1) d c) is bound) where
  there : HasBoundIn y (y + 1) (owing rows b) c → HasBoundIn y (y + 1) b c
  there next = record { frame = next.frame; graph_is = next.graph_is; peer = next.peer; binds = next.binds; parked = next.parked; opened = next.opened; idle = next.idle }

-- binds before a later variable's turn, and the bind of that variable
pub bound-more : (a b c : Core) (mid y : ℕ) → mid ≤ y → IsLegal c.frame c.entries → HasBoundIn 0 mid a b → HasBoundIn y (y + 1) b c → HasBoundIn 0 (y + 1) a c
bound-more a b c mid y late legal one next = record {
  frame = next.frame ∙ one.frame;
  graph_is = next.graph_is ∙ one.graph_is;
  peer = next.peer ∙ one.peer;
  binds = (
    one.binds.0 ++ next.binds.0,
    next.binds.1 ∙ ap (λ (h : List Entry). h ++ next.binds.0) one.binds.1 ∙ append_assoc a.entries one.binds.0 next.binds.0,
    binds-both 0 mid y (y + 1) (length a.entries) one.binds.0 next.binds.0 (omega arith) late (omega arith) one.binds.2
        (subst (λ (n : ℕ). AreBinds y (y + 1) n next.binds.0) (ap (λ (h : List Entry). length h) one.binds.1 ∙ length-append a.entries one.binds.0) next.binds.2),
  );
  parked = next.parked ∙ ap (filter unmet) one.parked ∙ narrower (λ r. not (is_met b.frame b.entries r)) unmet before a.parked;
  opened = next.opened ∙ one.opened;
  idle = next.idle;
} where
  unmet : Read → Bool
  unmet r = not (is_met c.frame c.entries r)

  before : (r : Read) → unmet r ≡ true → not (is_met b.frame b.entries r) ≡ true
  before r off = unmet-before b.frame b.entries next.binds.0 (subst (λ (h : List Entry). IsLegal b.frame h) next.binds.1 (subst (λ (X : Frame). IsLegal X c.entries) next.frame legal)) r
      ((λ i. not (is_met (sym next.frame i) (sym next.binds.1 i) r)) ∙ off)

module _ (c new : Core) (by y n : ℕ) (mine : by ≡ 0) (is : new ≡ entered (entry by (Bind y n)) c) where
  -- the result was taken in
  pub bound-done : n ≡ length c.entries → IsLegal c.frame c.entries → IsDerived (graph c.frame c.entries) y → IsIdle c.busy → HasBoundIn y (y + 1) c new
  bound-done now legal derived idle = subst (λ (d : Core). HasBoundIn y (y + 1) c d) (sym is) (record {
    frame = refl;
    graph_is = graph-bound c.frame c.entries (entry by (Bind y n)) y n refl;
    peer = peer-bound c.frame c.entries legal (entry by (Bind y n)) y n refl derived;
    binds = (entry by (Bind y n) ∷ [], refl, (y, omega arith, omega arith, (λ i. entry (mine i) (Bind y (now i))), tt));
    parked = refl;
    opened = refl;
    idle = idle;
  })

  -- and made the variable clean, with those before it
  pub clean-done : IsLegal c.frame (c.entries ++ entry by (Bind y n) ∷ []) → n ≡ length c.entries → AreCleanBelow y c → AreCleanBelow (y + 1) new
  clean-done legal now below = subst (AreCleanBelow (y + 1)) (sym is) each where
    each : AreCleanBelow (y + 1) (entered (entry by (Bind y n)) c)
    each z low derived = choose (same-or-apart z y) where
      choose : (z ≡ y) ⊎ (z ≡ y → ⊥) → IsClean c.frame (c.entries ++ entry by (Bind y n) ∷ []) z
      choose (inl same) =
          subst (λ (w : ℕ). IsClean c.frame (c.entries ++ entry by (Bind y n) ∷ []) w) (sym same)
          (clean-after-bind c.frame c.entries (entry by (Bind y n)) y legal (ap (λ (m : ℕ). Bind y m) now))
      choose (inr apart) =
          let before : z < y = omega (arith, low, apart) in
          clean-before c.frame c.entries (entry by (Bind y n)) y z n legal refl before
          (below z before (subst (λ (g : List Decl). IsDerived g z) (graph-bound c.frame c.entries (entry by (Bind y n)) y n refl) derived))

-- ---- the whole of it

-- what is too large on the present sources is so on those before
pub large-bound : (many : ℕ) (a b : Core) → HasBoundIn 0 many a b → first_large 0 (eval (graph a.frame a.entries) (sources a.frame a.entries)) ≡ first_large 0 (eval (graph b.frame b.entries) (sources b.frame b.entries))
large-bound many a b bound i = first_large 0 (eval (sym bound.graph_is i) (ap (λ (r : Peer). r.contents) (sym bound.peer) i))

pub small-settled : (many : ℕ) (a b : Core) → HasBoundIn 0 many a b → IsLegal b.frame b.entries → IsSettled b → first_large 0 (eval (graph a.frame a.entries) (sources a.frame a.entries)) ≡ None
small-settled many a b bound legal settled = large-bound many a b bound ∙ settled-small b.frame b.entries legal settled

pub shown-settled : (many : ℕ) (a b : Core) → HasBoundIn 0 many a b → IsLegal b.frame b.entries → IsSettled b → vals b.frame b.entries ≡ eval (graph a.frame a.entries) (sources a.frame a.entries)
shown-settled many a b bound legal settled = all-clean b.frame b.entries legal settled ∙ (λ i. eval (bound.graph_is i) (ap (λ (r : Peer). r.contents) bound.peer i))

-- what was reached so far: the variables below some number, which is at least this one, are clean, by binds of those alone
pub record IsBoundBelow (many : ℕ) (old new : Core) : Type 0 where
  pub reached : ℕ
  pub late : many ≤ reached
  pub within : reached ≤ length (graph old.frame old.entries)
  pub bound : HasBoundIn 0 reached old new
  pub clean : AreCleanBelow reached new

pub below-start : (c : Core) → IsCore c → IsIdle c.busy → IsBoundBelow 0 c c
below-start c core idle = record { reached = 0; late = omega arith; within = omega arith; bound = bound-start c core idle; clean = λ y low. absurd (omega (arith, low)) }

-- all that was bound so far was bound
pub below-bound : (many : ℕ) (a b : Core) → IsBoundBelow many a b → HasBound a b
below-bound many a b below = bound-wider below.reached (length (graph a.frame a.entries)) a b below.within below.bound

-- where all were reached, all are clean
pub below-all : (a b : Core) (many : ℕ) → length (graph a.frame a.entries) ≤ many → IsBoundBelow many a b → IsSettled b
below-all a b many all below y derived = below.clean y (omega (arith, all, below.late, derived.declared, ap (λ (ds : List Decl). length ds) below.bound.graph_is)) derived

-- a turn at which the variable lacks nothing
pub turn-passed : (many : ℕ) (a b : Core) → many < length (graph a.frame a.entries) → (IsUnclean b.frame b.entries many → ⊥) → IsBoundBelow many a b → IsBoundBelow (many + 1) a b
turn-passed many a b within not_so below = choose (nat_lt many below.reached) refl where
  choose : (c : Bool) → nat_lt many below.reached ≡ c → IsBoundBelow (many + 1) a b
  choose true t =
      let more : many < below.reached = grind (arith, nat_tests, t) in
      record { reached = below.reached; late = omega (arith, more); within = below.within; bound = below.bound; clean = below.clean }
  choose false t =
      let most : below.reached ≤ many = grind (arith, nat_tests, t) in
      record {
        reached = many + 1;
        late = omega arith;
        within = omega (arith, within);
        bound = bound-wider below.reached (many + 1) a b (omega (arith, most)) below.bound;
        clean = λ z low derived. either z derived low (same-or-apart z many);
      }
    where
      either : (z : ℕ) → IsDerived (graph b.frame b.entries) z → z < many + 1 → (z ≡ many) ⊎ (z ≡ many → ⊥) → IsClean b.frame b.entries z
      either z derived low (inl same) = clean-else b.frame b.entries z derived (λ lacks. not_so (subst (IsUnclean b.frame b.entries) same lacks))
      either z derived low (inr apart) = below.clean z (omega (arith, low, apart, below.late)) derived

-- a turn at which the variable was bound, or not
module _ (a b c : Core) (y : ℕ) (legal : IsLegal c.frame c.entries) (lacks : IsUnclean b.frame b.entries y) (below : IsBoundBelow y a b) (bound : HasBoundIn y (y + 1) b c) where
  turn : IsTurn b below.reached y
  turn = turn-taken b below.reached y below.late below.clean lacks

  place : y < length (graph a.frame a.entries)
  place = omega (arith, turn.declared, ap (λ (ds : List Decl). length ds) below.bound.graph_is)

  both : HasBoundIn 0 (y + 1) a c
  both = bound-more a b c below.reached y turn.late legal below.bound bound

  pub turn-bound : HasBound a c
  turn-bound = bound-wider (y + 1) (length (graph a.frame a.entries)) a c (omega (arith, place)) both

  pub turn-below : AreCleanBelow (y + 1) c → IsBoundBelow (y + 1) a c
  turn-below clean = record { reached = y + 1; late = omega arith; within = omega (arith, place); bound = both; clean = clean }

-- where all were clean at first and the core is as it was, no variable lacks anything
pub none-lacks : (a b : Core) (y : ℕ) → IsUnclean b.frame b.entries y → IsSettled a → b ≡ a → ⊥
none-lacks a b y lacks settled same = lacks.lacks ((subst IsSettled (sym same) settled) y lacks.derived)

-- ---- what it costs

rows-more : (X : Frame) (h es : List Entry) (e : Entry) → rows_bound X h (es ++ e ∷ []) ≡ rows_bound X h es + rows_behind X (h ++ es) e.act
rows-more X h [] e =
    let same : rows_behind X (h ++ []) e.act ≡ rows_behind X h e.act = ap (λ (k : List Entry). rows_behind X k e.act) (append-nil h) in
    omega (arith, same)
rows-more X h (d ∷ es) e =
    let rest : rows_bound X (h ++ d ∷ []) (es ++ e ∷ []) ≡ rows_bound X (h ++ d ∷ []) es + rows_behind X ((h ++ d ∷ []) ++ es) e.act = rows-more X (h ++ d ∷ []) es e in
    let same : rows_behind X ((h ++ d ∷ []) ++ es) e.act ≡ rows_behind X (h ++ d ∷ es) e.act = ap (λ (k : List Entry). rows_behind X k e.act) (append_assoc h (d ∷ []) es) in
    omega (arith, rest, same)

rows-are : (a c : Core) (es : List Entry) → c.entries ≡ a.entries ++ es → rows_since a c ≡ rows_bound a.frame a.entries es
rows-are a c es is = ap (rows_bound a.frame a.entries) (ap (λ (h : List Entry). drop (length a.entries) h) is ∙ (drop_at a.entries es (length a.entries) refl))

-- so many ticks more, and so many rows owed more, as rows changed
pub record HasCost (old new : Core) (before after : ℕ) : Type 0 where
  pub owed : new.owed ≡ counted_up old.owed (rows_since old new)
  pub ticks : after ≤ before + rows_since old new

pub cost-none : (c : Core) (n : ℕ) → c.owed ≤ greatest_count → HasCost c c n n
cost-none c n low = record { owed = omega (arith, low, none); ticks = omega arith } where
  none : rows_since c c ≡ 0
  none = rows-are c c [] (sym (append-nil c.entries))

-- the ticks stay below what is owed, unless that stands still
pub cost-within : (a b : Core) (m n : ℕ) → HasCost a b m n → b.owed < greatest_count → n + a.owed ≤ m + b.owed
cost-within a b m n cost low = omega (arith, cost.owed, cost.ticks, low)

-- a turn at which the variable wasn't bound: what it owes is at least its ticks
pub cost-refused : (a b c : Core) (before now after : ℕ) → HasCost a b before now → b.owed ≤ c.owed → (c.owed < greatest_count → after + b.owed ≤ now + c.owed) → c.owed < greatest_count → after + a.owed ≤ before + c.owed
cost-refused a b c before now after cost rises spent low = omega (arith, cost.owed, cost.ticks, rises, spent low, low)

-- a turn at which it was
pub cost-more : (a b c : Core) (mid y before now after : ℕ) → HasCost a b before now → HasBoundIn 0 mid a b → c.owed ≡ counted_up b.owed (unread_rows b.frame b.entries y) → after ≤ now + unread_rows b.frame b.entries y
    → c.entries ≡ b.entries ++ entry 0 (Bind y (length b.entries)) ∷ [] → HasCost a c before after
cost-more a b c mid y before now after cost bound owed ticks entered = record { owed = omega (arith, cost.owed, owed, more); ticks = omega (arith, cost.ticks, ticks, more) } where
  es : List Entry
  es = bound.binds.0

  e : Entry
  e = entry 0 (Bind y (length b.entries))

  all : c.entries ≡ a.entries ++ (es ++ e ∷ [])
  all = entered ∙ ap (λ (h : List Entry). h ++ e ∷ []) bound.binds.1 ∙ append_assoc a.entries es (e ∷ [])

  there : rows_behind a.frame (a.entries ++ es) e.act ≡ unread_rows b.frame b.entries y
  there = λ i. unread_rows (sym bound.frame i) (sym bound.binds.1 i) y

  more : rows_since a c ≡ rows_since a b + unread_rows b.frame b.entries y
  more = rows-are a c (es ++ e ∷ []) all ∙ rows-more a.frame a.entries es e ∙ (λ i. sym (rows-are a b es bound.binds.1) i + there i)

-- the rows that changed are those that the variable has not read
pub unread-counted : (X : Frame) (h : List Entry) (y : ℕ) (u : Unread) → IsUnread X h y u → rows_in u ≡ unread_rows X h y
unread-counted X h y u is i = length (is.first i) + (if is.two i then length (is.second i) else 0)

-- what a turn owes, and what it costs
module _ (b out c : Core) (y rows now after : ℕ) (unread : rows ≡ unread_rows b.frame b.entries y) (is : out ≡ owing rows b) (owed : c.owed ≡ out.owed) (ticks : after ≤ now + rows) where
  owed-rows : c.owed ≡ counted_up b.owed rows
  owed-rows = owed ∙ ap (λ (d : Core). d.owed) is

  pub owed-more : c.owed ≡ counted_up b.owed (unread_rows b.frame b.entries y)
  owed-more = owed-rows ∙ ap (counted_up b.owed) unread

  pub owed-rises : b.owed ≤ greatest_count → b.owed ≤ c.owed
  owed-rises low = omega (arith, owed-rows, low)

  pub owed-ticks : after ≤ now + unread_rows b.frame b.entries y
  owed-ticks = omega (arith, ticks, unread)

  pub owed-within : c.owed < greatest_count → after + b.owed ≤ now + c.owed
  owed-within low = omega (arith, owed-rows, ticks, low)
