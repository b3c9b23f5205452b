-- A site forgets nothing: what it writes counts what it took in and its own updates, and a call on told files is a call among the sites.
use Rattle.std.proofs.Common.{refl, sym, ap, subst, ◌∙◌, arith}
use Rattle.std.specs.Prelude.{◌≡◌, ◌<◌, ◌≤◌, ◌==◌, ℕ, zero, suc, ◌+◌, ◌++◌, Bool, true, false, if◌then◌else◌, List, [], ◌∷◌, length, Option, Result, Ok, slice_set}
use Rattle.std.proofs.lemmas.Bool.{eqb-true, eq-eqb}
use Rattle.model_functions.specs.Library.{Library}
use Rattle.model_states.specs.Counts.{count_at, AreCountsAtMost}
use Rattle.model_states.specs.Update.{Op}
use Rattle.model_states.proofs.CountLaws.{count_at-larger, count_at-set, length-larger, length-zeros}
use Rattle.model_graph.specs.Graph.{Decl}
use Rattle.model_graph.proofs.PlaceLaws.{set-length}
use Rattle.model_graph.specs.Message.{Message}
use Rattle.model_scripts.proofs.Reached.{accepted-script_of}
use Rattle.model_world.specs.Command.{Command, Script}
use Rattle.model_world.specs.Lawful.{opening_stage, AreLawful}
use Rattle.model_world.specs.World.{Peer, fresh_peer, sent_number, updated, delivered, message_at}
use Rattle.model_program.specs.Ends.{Writing}
use Rattle.model_program.specs.Follows.{View}
use Rattle.model_program.specs.Merge.{taking}
use Rattle.model_site.specs.Call.{Writes, TellsSite, TellsCall}
use Rattle.model_site.specs.Ends.{Ends, Settles}
use Rattle.model_site.specs.History.{SiteCall, Sites, taken_by, IsCallOf}
use Rattle.model_site.specs.Follows.{Follows}
use Rattle.model_site.specs.Program.{site_answer, plan}
use Rattle.model_site.specs.Site.{own, AreOwn, update_done, done_by, updates_done}
use Rattle.model_site.specs.Told.{heard, IsKept}
use Rattle.model_site.specs.declared.site_failure.SiteFailure.{SiteFailure}
use Rattle.model_site.proofs.AnswerLaws.{follows-told, done-ends}
use Rattle.model_site.proofs.PromiseLaws.{answer-bound, site-told}
use Rattle.model_site.proofs.SiteLaws.{own-told, ok-same, one-more, none-left}
use Rattle.model_site.proofs.WorldLaws.{update-passed, bound-ok}

-- ---- what is taken in

pub taking-grows : (g : List Decl) (r : Peer) (ms : List Message) → AreCountsAtMost r.counts (taking g r ms).counts
taking-grows g r [] q = omega arith
taking-grows g r (m ∷ ms) q = omega (arith, count_at-larger r.counts m.counts q, taking-grows g (delivered g m r) ms q)

pub taking-wide : (g : List Decl) (r : Peer) (ms : List Message) → length r.counts ≤ length (taking g r ms).counts
taking-wide g r [] = omega arith
taking-wide g r (m ∷ ms) = omega (arith, length-larger r.counts m.counts, taking-wide g (delivered g m r) ms)

-- a replica counts what each message that it took counts
taken-counted : (g : List Decl) (r : Peer) (ms : List Message) (i : ℕ) → AreCountsAtMost (sent_number ms i).counts (taking g r ms).counts
taken-counted g r [] i q = omega arith
taken-counted g r (m ∷ ms) zero q = omega (arith, count_at-larger r.counts m.counts q, taking-grows g (delivered g m r) ms q)
taken-counted g r (m ∷ ms) (suc i) q = taken-counted g (delivered g m r) ms i q

-- ---- updates

-- what some updates of replica p did to its counts
pub record HasCounted (p : ℕ) (many : ℕ) (before after : List ℕ) : Type 0 where
  pub more : AreCountsAtMost before after
  pub own : count_at after p ≡ count_at before p + many

count-grows : (p q : ℕ) (counts : List ℕ) (b : Bool) → (q == p) ≡ b → count_at counts q ≤ (if b then count_at counts p + 1 else count_at counts q)
count-grows p q counts true e = omega (arith, ap (λ (n : ℕ). count_at counts n) (eqb-true q p e))
count-grows p q counts false e = omega arith

one-counted : (p x : ℕ) (op : Op) (r : Peer) → p < length r.counts → HasCounted p 1 r.counts (updated p x op r).counts
one-counted p x op r low = record {
  more = λ q. omega (arith, count-grows p q r.counts (q == p) refl, count_at-set r.counts p (count_at r.counts p + 1) q low);
  own = count_at-set r.counts p (count_at r.counts p + 1) p low ∙ ap (λ (b : Bool). if b then count_at r.counts p + 1 else count_at r.counts p) (eq-eqb p p refl);
}

pub all-counted : (p : ℕ) (g : List Decl) (c : ℕ) (r last : Peer) (commands : List Command) → p < length r.counts → AreOwn p commands → updates_done p g c r commands ≡ Ok last → HasCounted p (length commands) r.counts last.counts
all-counted p g c r last [] low mine e =
    let same : r ≡ last = ok-same r last (sym (none-left p g c r) ∙ e) in
    record { more = λ q. omega (arith, ap (λ (x : Peer). count_at x.counts q) same); own = omega (arith, ap (λ (x : Peer). count_at x.counts p) same) }
all-counted p g c r last (k ∷ rest) low mine e =
    let one = mine.0 in
    let both = bound-ok (done_by p g c r (own p k)) (λ next. updates_done p g (c + 1) next rest) last (sym (one-more p g c r k rest) ∙ e) in
    let done : update_done p g c r (one.0, one.1) ≡ Ok both.0 = ap (λ (o : Option (ℕ × Op)). done_by p g c r o) (sym (own-told p k one.0 one.1 one.2)) ∙ both.1 in
    let is : both.0 ≡ updated p one.0 one.1 r = (update-passed p g c r both.0 (one.0, one.1) done).0 in
    let first = one-counted p one.0 one.1 r low in
    let later = all-counted p g (c + 1) (updated p one.0 one.1 r) last rest (omega (arith, low, set-length r.counts p (count_at r.counts p + 1))) mine.1 (subst (λ (x : Peer). updates_done p g (c + 1) x rest ≡ Ok last) is both.2) in
    record { more = λ q. omega (arith, first.more q, later.more q); own = omega (arith, first.own, later.own) }

-- ---- what is written

module _ (lib : Library) (content : List ℕ → Option (List ℕ)) (words : List (List ℕ)) (p : ℕ) (g : List Decl) (s : Script) (messages : List Message) (tells : TellsSite lib content words p g s messages) where
  wide : p < length (heard g s.nodes messages).counts
  wide = omega (arith, tells.site.node, length-zeros s.nodes, taking-wide g (fresh_peer g s.nodes) messages)

  pub kept-answer : (bytes : List ℕ) → site_answer p g s (heard g s.nodes messages) ≡ Ok bytes → IsKept p g s messages bytes
  kept-answer bytes e =
      let parts = answer-bound p g s (heard g s.nodes messages) bytes e in
      let counted = all-counted p g 1 (heard g s.nodes messages) parts.0 s.commands wide tells.site.own parts.1 in
      record {
        last = parts.0;
        written = parts.3;
        taken = λ i q. omega (arith, taken-counted g (fresh_peer g s.nodes) messages i q, counted.more q);
        own = counted.own;
      }

-- ---- calls among the sites

-- what a site wrote of the states that a call takes in is the state of that call
called-answer : (lib : Library) (content : List ℕ → Option (List ℕ)) (words : List (List ℕ)) (g : List Decl) (s : Script) (sites : Sites) (k : SiteCall) (bytes : List ℕ) → TellsCall lib content words g s sites k → site_answer k.site g s (heard g s.nodes (taken_by sites k)) ≡ Ok bytes → IsCallOf g s.nodes sites k bytes
called-answer lib content words g s sites k bytes tells e =
    let same = tells.commands in
    let parts = answer-bound k.site g s (heard g s.nodes (taken_by sites k)) bytes e in
    record {
      next = record { written = sites.written ++ message_at g parts.0 ∷ []; kept = slice_set sites.kept k.site (message_at g parts.0 ∷ []) };
      called = record {
        member = tells.site.site.node;
        files = tells.files;
        lawful = subst (AreLawful s.nodes (opening_stage g)) same (accepted-script_of lib g tells.site.site.opened.script.bytes s tells.site.site.opened.script.read).lawful.each;
        own = subst (AreOwn k.site) same tells.site.site.own;
        last = parts.0;
        done = subst (λ (ks : List Command). updates_done k.site g 1 (heard g s.nodes (taken_by sites k)) ks ≡ Ok parts.0) same parts.1;
        written = refl;
        kept = refl;
      };
      written = parts.3;
    }

-- ---- with status 0

-- the answer of a call that ended so is what it wrote
module _ (lib : Library) (words : List (List ℕ)) (v : View) (p : ℕ) (g : List Decl) (s : Script) (messages : List Message) (answer : Result (List ℕ) SiteFailure) (out err : Writing) (status : ℕ) (tells : TellsSite lib v.content words p g s messages) (follows : Follows words v (plan lib words) answer) (ends : Ends words answer out err status) (done : status ≡ 0) where
  pub written-answer : (bytes : List ℕ) × (site_answer p g s (heard g s.nodes messages) ≡ Ok bytes) × Writes out bytes
  written-answer =
      let written = done-ends words answer out err status done ends in
      let settled = follows-told words v (plan lib words) answer (site_answer p g s (heard g s.nodes messages)) follows (site-told lib v.content words p g s messages tells) in
      (written.0, subst (λ (a : Result (List ℕ) SiteFailure). Settles words v (plan lib words) (site_answer p g s (heard g s.nodes messages)) a) written.1 settled, written.2)

  pub kept-ends : (bytes : List ℕ) × IsKept p g s messages bytes × Writes out bytes
  kept-ends = let it = written-answer in (it.0, kept-answer lib v.content words p g s messages tells it.0 it.1, it.2)

pub called-ends : (lib : Library) (words : List (List ℕ)) (v : View) (g : List Decl) (s : Script) (sites : Sites) (k : SiteCall) (answer : Result (List ℕ) SiteFailure) (out err : Writing) (status : ℕ) → TellsCall lib v.content words g s sites k
    → Follows words v (plan lib words) answer → Ends words answer out err status → status ≡ 0 → (bytes : List ℕ) × IsCallOf g s.nodes sites k bytes × Writes out bytes
called-ends lib words v g s sites k answer out err status tells follows ends done =
    let it = written-answer lib words v k.site g s (taken_by sites k) answer out err status tells.site follows ends done in
    (it.0, called-answer lib v.content words g s sites k it.0 tells it.1, it.2)
