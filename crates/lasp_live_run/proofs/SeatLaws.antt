-- The desks of a run: before their nodes are fed, and when all were.
use Rattle.std.proofs.Common.{◌≡◌, ℕ, zero, suc, ◌+◌, ◌*◌, List, [], ◌∷◌, ◌++◌, length, map, Option, Some, None, refl, sym, ap, subst, ◌∙◌, arith}
use Rattle.std.specs.Prelude.{All, slice_get, slice_index_or}
use Rattle.std.specs.List.{AllZip}
use Rattle.std.specs.declared.alloc.Global.{Global}
use Rattle.std.specs.declared.vec.Vec.{Vec}
use Rattle.std.proofs.lemmas.List.{length-map}
use Rattle.std.proofs.lemmas.List.Elements.{length_all_zip}
use Rattle.std.proofs.lemmas.Option.{same_Some, slice_get-get_or, slice_get_within}
use Rattle.model_core.specs.Core.{Core}
use Rattle.model_graph.specs.Graph.{Decl}
use Rattle.model_functions.specs.Library.{Library}
use Rattle.model_journal.specs.Entry.{Entry, Frame}
use Rattle.model_journal.specs.Journal.{graph}
use Rattle.model_live.proofs.HearLaws.{graph-opens}
use Rattle.model_readings.specs.Lawful.{FitsAll, IsGraph}
use Rattle.model_runs.specs.Calls as calls
use Rattle.model_runs.specs.Calls.{unbound}
use Rattle.model_world.specs.Command.{Script}
use Rattle.model_world.specs.Lawful.{IsLawful, IsWithinLimits}
use Rattle.model_live.specs.Together.{too_large}
use Rattle.model_live.specs.Words.{AreLive}
use Rattle.lasp_drive.proofs.NodeLaws.{mapped-at}
use Rattle.lasp_histlock.specs.Names.{LockId}
use Rattle.lasp_histlock.specs.Passes.{first_pass}
use Rattle.lasp_live.specs.Ends.{AreEnds, Box, In, Out}
use Rattle.lasp_live.specs.Steady.{setting}
use Rattle.lasp_live.specs.declared.diary.Diary.{Diary}
use Rattle.lasp_live_run.specs.Posts.{AreAllEnds, AreFreshEnds, Ins, Outs}
use Rattle.lasp_live_run.specs.Run.{AreSeated, AreUnfed, HaveServed, seat_view}
use Rattle.lasp_live_run.specs.Seat.{HasTold, IsReady, IsServed, SeatView}
use Rattle.lasp_live_run.specs.declared.run.Back.{Back}
use Rattle.lasp_live_run.specs.declared.seat.Seat.{Seat}
use Rattle.lasp_live_run.proofs.FeederLaws.{binds-results, results-declare}
use Rattle.lasp_live_run.proofs.PlaceLaws.{found-at}
use Rattle.lasp_live_run.proofs.RunLaws.{AreEnded, IsEnded}
use Rattle.lasp_store.specs.Settled.{GoesOnByBinds}
use Rattle.lasp_store.specs.Turn.{Knows, frame_in, frame_of, graph_seen}
use Rattle.lasp_store.proofs.SettleLaws.{goes-both}
use Rattle.lasp_store_node.specs.View.{Place, place_of}
use Rattle.lasp_threads.specs.Closed.{AreClosable, AreClosed}
use Rattle.lasp_threads.specs.Spots.{AreFeeds, AreKept, HasGrown}
use Rattle.lasp_threads.specs.Stores.{AreBack, AreFirst, frame_at}
use Rattle.lasp_threads.proofs.ListLaws.{map-twice, mapped-from, same-at, zip-mapped}
use Rattle.lasp_threads.proofs.StoreLaws.{placed-feeds}

-- what stands at a place of a list that is mapped to another
at-mapped : {X Y : Type 0} (f : X → Y) (xs : List X) (ys : List Y) (p : ℕ) (x : X) → map f xs ≡ ys → slice_get xs p ≡ Some x → slice_get ys p ≡ Some (f x)
at-mapped {X} {Y} f xs ys p x same at = subst (λ (l : List Y). slice_get l p ≡ Some (f x)) same (mapped-at f xs p x at)

-- ---- before they are fed

module _ (g : List Decl) (script : Script) (locks : List LockId) (first fed : List Knows) where
  first-at : AreFirst g locks first → (p : ℕ) (f : Knows) → slice_get first p ≡ Some f → (lock : LockId) × (f ≡ first_pass lock (frame_at g (length locks) p))
  first-at are p f at = let store = found-at locks p (omega (arith, slice_get_within first p f at, are.size)) in (store.0, are.first p store.0 f store.1 at)

  first-frame : length locks ≡ script.nodes → AreFirst g locks first → AreKept locks first fed → (p : ℕ) (f : Knows) → slice_get fed p ≡ Some f → f.frame ≡ Some (calls.frame_of g script.nodes p)
  first-frame many are kept p f at =
      let was = same-at (λ (q : Knows). q.frame) first fed p f kept.frames at in
      let begun = first-at are p was.0 was.1 in
      was.2 ∙ ap (λ (q : Knows). q.frame) begun.1 ∙ ap (λ (n : ℕ). Some (frame_at g n p)) many

  first-fresh : AreFirst g locks first → AreKept locks first fed → (p : ℕ) (f : Knows) → slice_get fed p ≡ Some f → unbound f.seen ≡ []
  first-fresh are kept p f at =
      let grown : HasGrown first p f = kept.seen p f at in
      let begun = first-at are p grown.was grown.at in
      ap unbound (grown.grew.1 ∙ ap (λ (l : List Entry). l ++ grown.grew.0) (ap (λ (q : Knows). q.seen) begun.1)) ∙ binds-results grown.grew.0 grown.grew.2

  pub unfed-kept : length locks ≡ script.nodes → AreFirst g locks first → AreKept locks first fed → AreUnfed g script fed
  unfed-kept many are kept = record { many = kept.feeds.size ∙ many; frame = first-frame many are kept; fresh = first-fresh are kept }

-- nodes that are at their desks may be fed
pub ready-all : (g : List Decl) (script : Script) (fed : List Knows) (boxes : List Box) (outs : Outs) (ins : Ins) (seats : List (Seat Knows)) → IsGraph g → IsLawful g script → IsWithinLimits script → AreLive script.commands → too_large g script ≡ None
    → AreUnfed g script fed → AreFreshEnds (g, script) script.nodes boxes outs ins → AreSeated fed outs ins seats → All (λ d. IsReady (setting g script d.me) boxes (seat_view d)) seats
ready-all g script fed boxes outs ins seats graph lawful limits live small unfed ends seated p d low = ready (slice_index_or seats p d) (slice_get-get_or seats p d low) where
  ready : (s : Seat Knows) → slice_get seats p ≡ Some s → IsReady (setting g script s.me) boxes (seat_view s)
  ready s at =
      let me : s.me ≡ p = (seated.each p s at).0 in
      let feed : slice_get fed p ≡ Some s.feeder = at-mapped (λ (t : Seat Knows). t.feeder) seats fed p s seated.feeders at in
      let outlets : slice_get outs p ≡ Some s.outs = at-mapped (λ (t : Seat Knows). t.outs) seats outs p s seated.outlets at in
      let inlets : slice_get ins p ≡ Some s.ins = at-mapped (λ (t : Seat Knows). t.ins) seats ins p s seated.inlets at in
      let both = ends.each p s.outs s.ins outlets inlets in
      record {
        me = refl;
        frame = ap frame_in (unfed.frame p s.feeder feed) ∙ ap (calls.frame_of g script.nodes) (sym me);
        fresh = unfed.fresh p s.feeder feed;
        none = (seated.each p s at).1;
        unused = both.1;
        may = record {
          graph = graph;
          lawful = lawful;
          limits = limits;
          live = live;
          small = small;
          member = (let inside = slice_get_within outs p s.outs outlets in omega (arith, inside, me, ends.outs_many));
          ends = subst (λ (q : ℕ). AreEnds (g, script) script.nodes q boxes s.outs.items s.ins.items) (sym me) both.0;
        };
      }

-- the library has what the graphs of the feeds name
pub kept-fits : (lib : Library) (g : List Decl) (script : Script) (locks : List LockId) (first fed : List Knows) → FitsAll lib g → length locks ≡ script.nodes → AreFirst g locks first → AreKept locks first fed → All (λ f. FitsAll lib (graph_seen f)) fed
kept-fits lib g script locks first fed fits many are kept p d low = each (slice_index_or fed p d) (slice_get-get_or fed p d low) where
  each : (f : Knows) → slice_get fed p ≡ Some f → FitsAll lib (graph_seen f)
  each f at =
      let grown : HasGrown first p f = kept.seen p f at in
      let lock = found-at locks p (omega (arith, slice_get_within first p grown.was grown.at, are.size)) in
      let begun : grown.was ≡ first_pass lock.0 (frame_at g (length locks) p) = are.first p lock.0 grown.was lock.1 grown.at in
      let X : Frame = frame_at g (length locks) p in
      let same = same-at (λ (q : Knows). q.frame) first fed p f kept.frames at in
      let again : same.0 ≡ grown.was = same_Some same.0 grown.was (sym same.1 ∙ grown.at) in
      let frame : frame_of f ≡ X = ap frame_in (same.2 ∙ ap (λ (q : Knows). q.frame) (again ∙ begun)) in
      let seen : f.seen ≡ grown.grew.0 = grown.grew.1 ∙ ap (λ (l : List Entry). l ++ grown.grew.0) (ap (λ (q : Knows). q.seen) begun) in
      subst (FitsAll lib) (sym ((λ i. graph (frame i) (seen i)) ∙ graph-opens X grown.grew.0 (results-declare grown.grew.0 (binds-results grown.grew.0 grown.grew.2)))) fits

-- there are as many mailboxes as pairs of nodes
pub square-of : (g : List Decl) (script : Script) (boxes : List Box) (outs : Outs) (ins : Ins) → IsLawful g script → AreFreshEnds (g, script) script.nodes boxes outs ins → length boxes ≡ script.nodes * script.nodes
square-of g script boxes outs ins lawful ends =
    let os = found-at outs 0 (omega (arith, lawful.some, ends.outs_many)) in
    let es = found-at ins 0 (omega (arith, lawful.some, ends.ins_many)) in
    (ends.each 0 os.0 es.0 os.1 es.1).0.many

-- ---- when all were

zip-at : {X : Type 0} (R : X → X → Type 0) (xs ys : List X) → AllZip R xs ys → (p : ℕ) (y : X) → slice_get ys p ≡ Some y → (x : X) × (slice_get xs p ≡ Some x) × R x y
zip-at R [] [] all p y at = absurd cc
zip-at R [] (z ∷ ys) all p y at = absurd all
zip-at R (x ∷ xs) [] all p y at = absurd all
zip-at R (x ∷ xs) (z ∷ ys) all zero y at = (x, refl, subst (R x) (same_Some z y at) all.0)
zip-at R (x ∷ xs) (z ∷ ys) all (suc p) y at = zip-at R xs ys all.1 p y at

-- the desk is of node p, and was served there
record WasServed (g : List Decl) (script : Script) (boxes : List Box) (p : ℕ) (s : Seat Knows) : Type 0 where
  ends : AreEnds (g, script) script.nodes p boxes s.outs.items s.ins.items
  told : HasTold (setting g script p) (seat_view s) s.diary

module _ (g : List Decl) (script : Script) (boxes : List Box) (fed : List Knows) (outs : Outs) (ins : Ins) (b : Back) (h : HaveServed g script boxes fed outs ins b) where
  was-served : (p : ℕ) (s : Seat Knows) → slice_get h.served p ≡ Some s → WasServed g script boxes p s
  was-served p s at =
      let R = λ (v w : SeatView Place). IsServed (setting g script v.me) boxes v w in
      let old = zip-at R (map seat_view h.seats) (map seat_view h.served) h.all p (seat_view s) (mapped-at seat_view h.served p s at) in
      let seat = mapped-from seat_view h.seats p old.0 old.1 in
      let me : old.0.me ≡ p = ap (λ (v : SeatView Place). v.me) seat.2 ∙ (h.seated.each p seat.0 seat.1).0 in
      let is : IsServed (setting g script p) boxes old.0 (seat_view s) = subst (λ (q : ℕ). IsServed (setting g script q) boxes old.0 (seat_view s)) me old.2 in
      record { ends = is.ends; told = is.told }

  pub served-many : length h.served ≡ length fed
  served-many =
      sym (length-map h.served seat_view)
      ∙ sym (length_all_zip (λ (v w : SeatView Place). IsServed (setting g script v.me) boxes v w) (map seat_view h.seats) (map seat_view h.served) h.all)
      ∙ length-map h.seats seat_view
      ∙ sym (length-map h.seats (λ (s : Seat Knows). s.feeder))
      ∙ ap (λ (l : List Knows). length l) h.seated.feeders

  pub served-placed : map place_of b.feeds.items ≡ map place_of fed
  served-placed =
      ap (map place_of) h.back.feeds
      ∙ map-twice (λ (s : Seat Knows). s.feeder) place_of h.served
      ∙ sym (map-twice seat_view (λ (v : SeatView Place). v.place) h.served)
      ∙ zip-mapped (λ (v w : SeatView Place). IsServed (setting g script v.me) boxes v w) (λ (v : SeatView Place). v.place) (λ v w is. is.place) (map seat_view h.seats) (map seat_view h.served) h.all
      ∙ map-twice seat_view (λ (v : SeatView Place). v.place) h.seats
      ∙ sym (map-twice (λ (s : Seat Knows). s.feeder) place_of h.seats)
      ∙ ap (map place_of) h.seated.feeders

  -- they are the feeds of the same stores
  pub served-feeds : (locks : List LockId) → AreFeeds locks fed → AreFeeds locks b.feeds.items
  served-feeds locks are = placed-feeds locks fed b.feeds.items are served-placed h.back.are

  module _ (nodes : length fed ≡ script.nodes) where
    many : length h.served ≡ script.nodes
    many = served-many ∙ nodes

    outs-many : length b.outs.items ≡ script.nodes
    outs-many = ap (λ (l : Outs). length l) h.back.outs ∙ length-map h.served (λ (s : Seat Knows). s.outs) ∙ many

    ins-many : length b.ins.items ≡ script.nodes
    ins-many = ap (λ (l : Ins). length l) h.back.ins ∙ length-map h.served (λ (s : Seat Knows). s.ins) ∙ many

    ends-of : (p : ℕ) (os : Vec Out Global) → slice_get b.outs.items p ≡ Some os → (s : Seat Knows) × (slice_get h.served p ≡ Some s) × (os ≡ s.outs)
    ends-of p os at = mapped-from (λ (s : Seat Knows). s.outs) h.served p os (subst (λ (l : Outs). slice_get l p ≡ Some os) h.back.outs at)

    ends-in : (p : ℕ) (es : Vec In Global) → slice_get b.ins.items p ≡ Some es → (s : Seat Knows) × (slice_get h.served p ≡ Some s) × (es ≡ s.ins)
    ends-in p es at = mapped-from (λ (s : Seat Knows). s.ins) h.served p es (subst (λ (l : Ins). slice_get l p ≡ Some es) h.back.ins at)

    pub served-ends : length boxes ≡ script.nodes * script.nodes → AreAllEnds (length b.outs.items) boxes b.outs.items b.ins.items
    served-ends square = subst (λ (n : ℕ). AreAllEnds n boxes b.outs.items b.ins.items) (sym outs-many) (record {
      square = square;
      rows = outs-many;
      columns = ins-many;
      outs_of = λ q os at. (let s = ends-of q os at in let is = was-served q s.0 s.1 in
          subst (λ (v : Vec Out Global). (length v.items ≡ script.nodes) × ((p : ℕ) (o : Out) → slice_get v.items p ≡ Some o → slice_get boxes (q * script.nodes + p) ≡ Some o.of)) (sym s.2) (is.ends.outs_many, is.ends.outs_of));
      ins_of = λ p es at. (let s = ends-in p es at in let is = was-served p s.0 s.1 in
          subst (λ (v : Vec In Global). (length v.items ≡ script.nodes) × ((q : ℕ) (e : In) → slice_get v.items q ≡ Some e → slice_get boxes (q * script.nodes + p) ≡ Some e.of)) (sym s.2) (is.ends.ins_many, is.ends.ins_of));
    })

    -- what the closed core of a node tells, and its diary
    told-by : (locks : List LockId) (last : List Knows) (cores : List Core) → length locks ≡ script.nodes → AreKept locks b.feeds.items last → AreBack g locks last → AreClosed last cores
        → (p : ℕ) (s : Seat Knows) (core : Core) (d : Diary) → slice_get h.served p ≡ Some s → slice_get cores p ≡ Some core → s.diary ≡ Some d → IsEnded g script p core d s.outs.items s.ins.items
    told-by locks last cores size kept whole closed p s core d at here diary =
        let l = found-at last p (omega (arith, slice_get_within cores p core here, closed.size)) in
        let lock = found-at locks p (omega (arith, slice_get_within last p l.0 l.1, whole.size)) in
        let grown : HasGrown b.feeds.items p l.0 = kept.seen p l.0 l.1 in
        let feed : slice_get b.feeds.items p ≡ Some s.feeder = subst (λ (fs : List Knows). slice_get fs p ≡ Some s.feeder) (sym h.back.feeds) (mapped-at (λ (t : Seat Knows). t.feeder) h.served p s at) in
        let same : grown.was ≡ s.feeder = same_Some grown.was s.feeder (sym grown.at ∙ feed) in
        let c = closed.each p l.0 core l.1 here in
        let on : GoesOnByBinds s.feeder.seen core.entries = goes-both s.feeder.seen l.0.seen core.entries (subst (λ (k : Knows). GoesOnByBinds k.seen l.0.seen) same grown.grew) c.entries in
        record {
          seen = s.feeder.seen;
          more = on.0;
          fed = subst (HasTold (setting g script p) (seat_view s)) diary (was-served p s at).told;
          frame = same_Some core.frame (calls.frame_of g script.nodes p) (c.frame ∙ (whole.each p lock.0 l.0 lock.1 l.1).frame ∙ ap (λ (n : ℕ). Some (frame_at g n p)) size);
          entries = on.1;
          results = binds-results on.0 on.2;
          legal = c.legal;
        }

    pub served-ended : (locks : List LockId) (last : List Knows) (cores : List Core) → length locks ≡ script.nodes → AreKept locks b.feeds.items last → AreBack g locks last → AreClosed last cores
        → AreEnded g script cores b.diaries.items b.outs.items b.ins.items
    served-ended locks last cores size kept whole closed = record {
      cores_many = closed.size ∙ whole.size ∙ size;
      diaries_many = sym (length-map b.diaries.items (λ (d : Diary). Some d)) ∙ ap (λ (l : List (Option Diary)). length l) h.back.diaries ∙ length-map h.served (λ (s : Seat Knows). s.diary) ∙ many;
      outs_many = outs-many;
      ins_many = ins-many;
      out_rows = λ p os at. (let s = ends-of p os at in ap (λ (v : Vec Out Global). length v.items) s.2 ∙ (was-served p s.0 s.1).ends.outs_many);
      in_rows = λ p es at. (let s = ends-in p es at in ap (λ (v : Vec In Global). length v.items) s.2 ∙ (was-served p s.0 s.1).ends.ins_many);
      each = λ p core d os es at-core at-diary at-outs at-ins. (let s = ends-of p os at-outs in let t = ends-in p es at-ins in
          let there : slice_get (map (λ (s : Seat Knows). s.diary) h.served) p ≡ Some (Some d) = subst (λ (l : List (Option Diary)). slice_get l p ≡ Some (Some d)) h.back.diaries (mapped-at (λ (e : Diary). Some e) b.diaries.items p d at-diary) in
          let diary : s.0.diary ≡ Some d = same_Some s.0.diary (Some d) (sym (mapped-at (λ (u : Seat Knows). u.diary) h.served p s.0 s.1) ∙ there) in
          let inlets : es ≡ s.0.ins = t.2 ∙ ap (λ (u : Seat Knows). u.ins) (same_Some t.0 s.0 (sym t.1 ∙ s.1)) in
          subst (λ (z : Vec Out Global × Vec In Global). IsEnded g script p core d z.0.items z.1.items) (λ i. (sym s.2 i, sym inlets i)) (told-by locks last cores size kept whole closed p s.0 core d s.1 at-core diary));
    }

-- ---- the feeds that came back

pub closable : (g : List Decl) (locks : List LockId) (last : List Knows) → AreBack g locks last → AreClosable locks last
closable g locks last whole = record { size = whole.size; each = λ p lock f store at. (let is = whole.each p lock f store at in record { feed = is.feed; hands = is.hands }) }
