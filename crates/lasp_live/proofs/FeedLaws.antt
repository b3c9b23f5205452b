-- How a feeder begins and ends.
use Rattle.std.proofs.Common.{◌≡◌, ℕ, ◌+◌, ◌<◌, ◌≤◌, zero, suc, Bool, true, false, List, [], ◌∷◌, ◌++◌, length, map, Option, Some, None, refl, sym, ap, subst, ◌∙◌, arith}
use Rattle.std.specs.Prelude.{◌≢◌, IsFalse, Ok, drop}
use Rattle.std.specs.declared.alloc.Global.{Global}
use Rattle.std.specs.declared.vec.Vec.{Vec}
use Rattle.std.proofs.lemmas.Bool.Decides.{nat_tests}
use Rattle.std.proofs.lemmas.List.{take_all}
use Rattle.std.proofs.lemmas.Option.{slice_get_within}
use Rattle.model_core.specs.Peer.{peer_of}
use Rattle.model_core.proofs.PeerLaws.{peer-fresh}
use Rattle.model_graph.specs.Evaluation.{content_at, least_of}
use Rattle.model_graph.specs.Graph.{Counter, Decl, Kind, kind_at}
use Rattle.model_journal.specs.Callers.{AreMadeByTheirCallers}
use Rattle.model_journal.specs.Entry.{Entry, Frame}
use Rattle.model_journal.specs.Legal.{IsLegal}
use Rattle.model_journal.proofs.LegalLaws.{legal-first}
use Rattle.model_graph.specs.Message.{Message}
use Rattle.model_runs.specs.Calls.{unbound}
use Rattle.model_states.specs.Counts.{count_at}
use Rattle.model_states.proofs.CountLaws.{count_at-zeros}
use Rattle.model_world.specs.Command.{Command}
use Rattle.model_world.specs.World.{Peer, fresh_peer}
use Rattle.model_live.specs.Knows.{Knows}
use Rattle.model_live.specs.Lived.{heard_of, numbered, first_number}
use Rattle.model_live.specs.Steps.{Step, Waits, steps}
use Rattle.model_live.specs.Story as plain
use Rattle.model_live.specs.Story.{ArePlaced, Goes, IsStory, deeds_from, ends, letters_in, is_met}
use Rattle.model_live.specs.Together.{after_steps, AreWithin}
use Rattle.model_live.proofs.StoryLaws.{goes-fails}
use Rattle.model_live.proofs.WithinLaws.{start-within}
use Rattle.lasp_live.specs.Diary.{AreTold, note_of, notes_of}
use Rattle.lasp_live.specs.Did.{HasFailed, HasPassed, HasPlayed}
use Rattle.lasp_live.specs.Ends.{AreUnused, Box, In, Out}
use Rattle.lasp_live.specs.Fed.{HasFed, HasHeard, HaveEnded, Hears, HearsMore, HoldsOwn, IsAt, IsFresh, Setting, behind, frame_in, has_ended}
use Rattle.lasp_live.specs.Mail.{if_ended, letters_and_end, letters_so_far, mails}
use Rattle.lasp_live.specs.Own.{steps_before, total_in}
use Rattle.lasp_live.specs.Posted.{AreOfTheSame, HavePut}
use Rattle.lasp_live.specs.Steady.{MayFeed, MayHear}
use Rattle.lasp_live.specs.declared.diary.Diary.{Diary}
use Rattle.lasp_live.specs.declared.diary.Note.{Note}
use Rattle.lasp_live.specs.declared.log.Log.{Log}
use Rattle.lasp_live.proofs.AtLaws.{at-hears, at-learned}
use Rattle.lasp_live.proofs.OwnStepLaws.{all-around}
use Rattle.lasp_live.proofs.PostLaws.{found}

-- ---- mailboxes

pub may-hear : (s : Setting) (boxes : List Box) (outs : List Out) (ins : List In) → MayFeed s boxes outs ins → MayHear s boxes ins
may-hear s boxes outs ins may = record {
  graph = may.graph;
  lawful = may.lawful;
  limits = may.limits;
  small = may.small;
  member = may.member;
  many = (may.ends.many, may.ends.ins_many);
  planned = may.ends.planned;
  ins_of = may.ends.ins_of;
}

pub may-heard : (s : Setting) (boxes : List Box) (outs : List Out) (ins rest : List In) → MayFeed s boxes outs ins → MayHear s boxes rest → MayFeed s boxes outs rest
may-heard s boxes outs ins rest may hears = record {
  graph = may.graph;
  lawful = may.lawful;
  limits = may.limits;
  live = may.live;
  small = may.small;
  member = may.member;
  ends = record { many = may.ends.many; outs_many = may.ends.outs_many; ins_many = hears.many.1; planned = may.ends.planned; outs_of = may.ends.outs_of; ins_of = hears.ins_of };
}

-- ---- the beginning

pub at-fresh : (s : Setting) (log : Log) (outs : List Out) (ins : List In) → IsLegal (frame_in s) [] → s.me < s.script.nodes → length ins ≡ s.script.nodes → IsFresh s.graph s.script.nodes s.me log → AreUnused outs ins → IsAt s 0 [] log outs ins
unfolding after_steps steps deeds_from letters_in heard_of numbered
at-fresh s log outs ins legal member many fresh unused = record {
  hears = record {
    knows = knows;
    many = fresh.many;
    itself = fresh.ended s.me member ∙ grind (arith, nat_tests);
    heard = λ q i there other. first-heard q i (unused.ins_are q i there) (has_ended log.ended.items q) (choose q other (slice_get_within ins q i there));
    untaken = unused.ins_are s.me;
  };
  unfailed = fresh.unfailed;
  placed = subst (λ (ns : List Note). ArePlaced 0 0 (map note_of ns)) (sym fresh.notes) tt;
  goes = subst (λ (ns : List Note). Goes X [] [] (deeds_from 0 (map note_of ns) []) None) (sym fresh.notes) ends;
  told = subst (AreTold X []) (sym fresh.notes) tt;
  own = record {
    size = fresh.size;
    updates = fresh.updates ∙ sym (count_at-zeros s.script.nodes s.me);
    totals = λ x low kind. fresh.totals x ∙ sym (fresh-counts s.graph x low kind);
    few = omega (arith, fresh.updates);
    little = λ x. (let none = fresh.totals x in omega (arith, none));
  };
  few = omega (arith, fresh.sent);
  sent = subst (λ (ns : List Note). log.sent ≡ length (letters_in X [] (map note_of ns))) (sym fresh.notes) fresh.sent;
  put = λ p o there other. ap mails (unused.outs_are p o there) ∙ subst (λ (ns : List Note). [] ≡ letters_so_far (letters_in X [] (map note_of ns))) (sym fresh.notes) refl;
  unput = unused.outs_are s.me;
} where
  X : Frame
  X = frame_in s

  peer : peer_of X [] ≡ fresh_peer s.graph s.script.nodes
  peer = peer-fresh X

  fresh-counts : (g : List Decl) (x : ℕ) → x < length g → kind_at g x ≡ Counter → count_at (content_at (map (λ (d : Decl). least_of s.script.nodes d.kind) g) x).counts s.me ≡ 0
  fresh-counts [] x low kind = absurd (omega (arith, low))
  fresh-counts (d ∷ g) zero low kind = ap (λ (k : Kind). count_at (least_of s.script.nodes k).counts s.me) kind ∙ count_at-zeros s.script.nodes s.me
  fresh-counts (d ∷ g) (suc x) low kind = fresh-counts g x (omega (arith, low)) kind

  knows : Knows s.graph s.script s.me log.own.updates (total_in log.own) []
  knows = record {
    legal = legal;
    callers = tt;
    undeclared = refl;
    updates = ap (λ (r : Peer). count_at r.counts s.me) peer ∙ count_at-zeros s.script.nodes s.me ∙ sym fresh.updates;
    totals = λ x low kind. ap (λ (r : Peer). count_at (content_at r.contents x).counts s.me) peer ∙ fresh-counts s.graph x low kind ∙ sym (fresh.totals x);
    known = λ q low. (let none = ap (λ (r : Peer). count_at r.counts q) peer ∙ count_at-zeros s.script.nodes q in omega (arith, none));
    within = subst (λ (r : Peer). AreWithin s.graph s.script r.contents) (sym peer) (start-within s.graph s.script);
    others = tt;
  }

  choose : (q : ℕ) → q ≢ s.me → q < length ins → has_ended log.ended.items q ≡ false
  choose q other low = fresh.ended q (omega (arith, many, low)) ∙ grind (arith, nat_tests, other)

  first-heard : (q : ℕ) (i : In) → i.got ≡ [] → (b : Bool) → b ≡ false → HasHeard [] q i b
  first-heard q i none b is = subst (HasHeard [] q i) (sym is) (record { messages = []; got = ap mails none; heard = refl })

-- the same where results have come
pub at-begins : (s : Setting) (seen : List Entry) (log : Log) (outs : List Out) (ins : List In) → IsLegal (frame_in s) seen → AreMadeByTheirCallers seen → unbound seen ≡ [] → s.me < s.script.nodes → length ins ≡ s.script.nodes
    → IsFresh s.graph s.script.nodes s.me log → AreUnused outs ins → IsAt s 0 seen log outs ins
at-begins s seen log outs ins legal made results member many fresh unused =
    at-learned s 0 [] seen log outs ins (at-fresh s log outs ins (legal-first (frame_in s) [] seen legal) member many fresh unused) (record { more = seen; is = refl; results = results }) legal made

-- ---- the end

-- what was taken to its end
got-all : (seen : List Entry) (q : ℕ) (i : In) (ended : Bool) → ended ≡ true → HasHeard seen q i ended → (messages : List Message) × (mails i.got ≡ letters_and_end messages) × (heard_of q seen ≡ numbered (first_number q) messages)
got-all seen q i ended is heard = (heard.messages, heard.got ∙ ap (λ (b : Bool). if_ended b heard.messages) is, heard.heard)

-- what the journal has of the node's own
own-held : (s : Setting) (i : ℕ) (seen : List Entry) (log : Log) (outs : List Out) (ins : List In) → IsAt s i seen log outs ins → HoldsOwn s i seen
own-held s i seen log outs ins at = record {
  updates = at.hears.knows.updates ∙ at.own.updates;
  totals = λ x low kind. at.hears.knows.totals x low kind ∙ at.own.totals x low kind;
  known = at.hears.knows.known;
  within = at.hears.knows.within;
}

-- a feeder whose story ends so, that has told its end to all and taken all that came
fed-at : (s : Setting) (i : ℕ) (failed : Option ℕ) (seen : List Entry) (log : Log) (diary : Diary) (outs rest : List Out) (ins : List In) → IsAt s i seen log outs ins → s.script.nodes ≡ length ins → diary.notes ≡ log.diary.notes → diary.failed ≡ failed → i ≡ behind s.script failed
    → Goes (frame_in s) seen (steps s.me 1 s.script.commands) (deeds_from 0 (notes_of log.diary) seen) failed → AreOfTheSame outs rest → HavePut s.me None outs rest → HaveEnded s log.ended.items → HasFed s seen diary rest ins
fed-at s i failed seen log diary outs rest ins at many notes is done goes same put ended = record {
  story = record {
    legal = at.hears.knows.legal;
    made = at.hears.knows.callers;
    undeclared = at.hears.knows.undeclared;
    placed = subst (ArePlaced 0 (length seen)) (sym kept) at.placed;
    goes = subst (Goes (frame_in s) seen (steps s.me 1 s.script.commands) (deeds_from 0 (notes_of diary) seen)) (sym is) (subst (λ (ns : List plain.Note). Goes (frame_in s) seen (steps s.me 1 s.script.commands) (deeds_from 0 ns seen) failed) (sym kept) goes);
  };
  told = subst (λ (ns : Vec Note Global). AreTold (frame_in s) seen ns.items) (sym notes) at.told;
  put = λ p o there other. (let was = found outs p (omega (arith, slice_get_within rest p o there, same.many)) in
      put.each p was.0 o was.1 there other ∙ ap (λ (l : List (Option Message)). l ++ None ∷ []) (at.put p was.0 was.1 other)
      ∙ ap (λ (ns : List plain.Note). letters_and_end (letters_in (frame_in s) seen ns)) (sym kept));
  got = λ q e there other. got-all seen q e (has_ended log.ended.items q) (ended q (omega (arith, many, slice_get_within ins q e there))) (at.hears.heard q e there other);
  others = at.hears.knows.others;
  unput = λ o there. at.unput o (sym put.itself ∙ there);
  untaken = at.hears.untaken;
  own = subst (λ (n : ℕ). HoldsOwn s n seen) (done ∙ ap (behind s.script) (sym is)) (own-held s i seen log outs ins at);
} where
  kept : notes_of diary ≡ notes_of log.diary
  kept = ap (λ (ns : Vec Note Global). map note_of ns.items) notes

-- behind all commands
pub fed-done : (s : Setting) (boxes : List Box) (seen : List Entry) (log : Log) (diary : Diary) (outs rest : List Out) (ins : List In) → MayFeed s boxes rest ins → IsAt s (length s.script.commands) seen log outs ins → diary.notes ≡ log.diary.notes → diary.failed ≡ None
    → AreOfTheSame outs rest → HavePut s.me None outs rest → HaveEnded s log.ended.items → HasFed s seen diary rest ins
fed-done s boxes seen log diary outs rest ins may at notes is same put ended =
    fed-at s (length s.script.commands) None seen log diary outs rest ins at (sym may.ends.ins_many) notes is refl
    (subst (λ (ks : List Command). Goes (frame_in s) seen (steps s.me 1 ks) (deeds_from 0 (notes_of log.diary) seen) None) (take_all (length s.script.commands) s.script.commands (omega arith)) at.goes) same put ended

-- at the threshold at which it failed
pub fed-failed : (s : Setting) (boxes : List Box) (i : ℕ) (seen : List Entry) (log : Log) (diary : Diary) (outs rest : List Out) (ins : List In) → MayFeed s boxes rest ins → HasFailed s i seen log outs ins → diary.notes ≡ log.diary.notes → diary.failed ≡ Some (i + 1)
    → AreOfTheSame outs rest → HavePut s.me None outs rest → HasFed s seen diary rest ins
fed-failed s boxes i seen log diary outs rest ins may fails notes is same put =
    fed-at s i (Some (i + 1)) seen log diary outs rest ins fails.at (sym may.ends.ins_many) notes is (omega arith)
    (subst (λ (l : List Step). Goes (frame_in s) seen l (deeds_from 0 (notes_of log.diary) seen) (Some (i + 1))) (sym (all-around s.script s.me i (Waits (i + 1) fails.x fails.until) fails.step))
    (goes-fails (frame_in s) seen (i + 1) fails.x fails.until (steps s.me (i + 2) (drop (i + 1) s.script.commands)) fails.unmet (steps_before s.script s.me i) (deeds_from 0 (notes_of log.diary) seen) None refl fails.at.goes))
    same put fails.ended

-- where the feeder is when its commands are done, or one failed
pub played-at : (E : Type 0) (s : Setting) (failed : Option ℕ) (seen : List Entry) (log : Log) (outs : List Out) (ins : List In) → HasPlayed {E = E} s (Ok failed) seen log outs ins → (i : ℕ) × (i ≤ length s.script.commands) × IsAt s i seen log outs ins
played-at E s None seen log outs ins at = (length s.script.commands, omega arith, at)
played-at E s (Some c) seen log outs ins fails =
    (fails.0, (let low = slice_get_within s.script.commands fails.0 fails.2.step.command fails.2.step.at in omega (arith, low)), fails.2.at)

-- and what it tells, when it said its end to all and took what came until all others said theirs
pub fed-all : (E : Type 0) (s : Setting) (boxes : List Box) (seen new : List Entry) (log : Log) (failed : Option ℕ) (diary : Diary) (ended : Vec Bool Global) (outs rest : List Out) (ins left : List In) → MayFeed s boxes rest left
    → HasPlayed {E = E} s (Ok failed) seen log outs ins → AreOfTheSame outs rest → HavePut s.me None outs rest → HearsMore seen new → Hears s new log.own ended.items left → HaveEnded s ended.items → (HaveEnded s log.ended.items → new ≡ seen)
    → diary.notes ≡ log.diary.notes → diary.failed ≡ failed → HasFed s new diary rest left
fed-all E s boxes seen new log None diary ended outs rest ins left may at same put more hears all still notes is =
    fed-done s boxes new (record log { ended = ended }) diary outs rest left may (at-hears s (length s.script.commands) seen new log ended outs ins left at more hears) notes is same put all
fed-all E s boxes seen new log (Some c) diary ended outs rest ins left may fails same put more hears all still notes is =
    let f : HasFailed s fails.0 seen log outs ins = fails.2 in
    let there : HasFailed s fails.0 new (record log { ended = ended }) outs left = record {
      x = f.x;
      until = f.until;
      step = f.step;
      unmet = subst (λ (l : List Entry). IsFalse (is_met (frame_in s) l (length l) f.x f.until)) (sym (still f.ended)) f.unmet;
      at = at-hears s fails.0 seen new log ended outs ins left f.at more hears;
      ended = all;
    } in
    fed-failed s boxes fails.0 new (record log { ended = ended }) diary outs rest left may there notes (is ∙ ap Some fails.1) same put

-- ---- command by command

-- a command that was done or passed
pub passed-on : (E : Type 0) (s : Setting) (i : ℕ) (passed : Bool) (seen : List Entry) (log : Log) (outs : List Out) (ins : List In) → passed ≡ true → HasPassed {E = E} s i (Ok passed) seen log outs ins → IsAt s (i + 1) seen log outs ins
passed-on E s i passed seen log outs ins is at = subst (λ (b : Bool). HasPassed {E = E} s i (Ok b) seen log outs ins) is at

-- and one that the node failed at
pub passed-not : (E : Type 0) (s : Setting) (i : ℕ) (passed : Bool) (seen : List Entry) (log : Log) (outs : List Out) (ins : List In) → passed ≡ false → HasPassed {E = E} s i (Ok passed) seen log outs ins → HasFailed s i seen log outs ins
passed-not E s i passed seen log outs ins is at = subst (λ (b : Bool). HasPassed {E = E} s i (Ok b) seen log outs ins) is at

-- all were done
pub played-all : (s : Setting) (i : ℕ) (seen : List Entry) (log : Log) (outs : List Out) (ins : List In) → i ≡ length s.script.commands → IsAt s i seen log outs ins → IsAt s (length s.script.commands) seen log outs ins
played-all s i seen log outs ins is at = subst (λ (n : ℕ). IsAt s n seen log outs ins) is at

pub ruleset feeds = (may-hear, may-heard, at-begins, played-at, fed-all)
