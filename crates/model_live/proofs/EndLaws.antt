-- How a story ends, and how its notes are told.
use Rattle.std.proofs.Common.{◌≡◌, ℕ, ◌+◌, ◌<◌, ◌==◌, Bool, true, false, cond, IsTrue, List, [], ◌∷◌, ◌++◌, length, not, Option, refl, sym, ap, subst, ◌∙◌, append-nil, append_assoc, arith}
use Rattle.std.specs.Prelude.{IsFalse}
use Rattle.std.specs.List.{AllByRecursion}
use Rattle.std.proofs.lemmas.Bool.Decides.{nat_tests}
use Rattle.std.proofs.lemmas.List.{length-append}
use Rattle.model_states.specs.Threshold.{meets}
use Rattle.model_graph.specs.Evaluation.{content_at, eval}
use Rattle.model_graph.specs.Graph.{Decl}
use Rattle.model_journal.specs.Callers.{MayMake, AreMadeByTheirCallers}
use Rattle.model_journal.specs.Entry.{Act, Update, Deliver, Bind, Extend, Entry, Frame}
use Rattle.model_journal.specs.Journal.{graph, declared}
use Rattle.model_journal.specs.Legal.{IsLegal}
use Rattle.model_journal.proofs.LegalLaws.{legal-first}
use Rattle.model_core.specs.Peer.{peer_of}
use Rattle.model_core.proofs.BaseLaws.{bound-derived}
use Rattle.model_core.proofs.PeerLaws.{graph-bound, peer-bound}
use Rattle.model_core.proofs.ReadLaws.{none-kept}
use Rattle.model_runs.specs.Calls.{is_bind, unbound, frame_of}
use Rattle.model_world.specs.Command.{Until, Script}
use Rattle.model_world.specs.World.{threshold_of}
use Rattle.model_live.specs.Steps.{Step, steps}
use Rattle.model_live.specs.Story.{Note, Placed, ArePlaced, notes_at, deeds_from, place_before, is_met, Goes, ends, does, passes, fails, IsStory}
use Rattle.model_live.proofs.StoryLaws.{AreAtMost, AreWithin, declared-append, now-shown, met-within, placed-most, placed-later, deeds-within, deeds-later, results-quiet}

-- ---- results change nothing that is told

pub record IsKept (X : Frame) (h k : List Entry) : Type 0 where
  pub graph_is : graph X k ≡ graph X h
  pub peer : peer_of X k ≡ peer_of X h

-- an entry that isn't left when binds are left out is a bind
pub result-of : (e : Entry) (more : List Entry) → unbound (e ∷ more) ≡ [] → (y : ℕ) × (n : ℕ) × (e.act ≡ Bind y n) × (unbound more ≡ [])
result-of e more h = choose e.act refl where
  left : (a : Act) → e.act ≡ a → cond (not (is_bind a)) (e ∷ unbound more) (unbound more) ≡ []
  left a is = sym (ap (λ (b : Act). cond (not (is_bind b)) (e ∷ unbound more) (unbound more)) is) ∙ h

  choose : (a : Act) → e.act ≡ a → (y : ℕ) × (n : ℕ) × (e.act ≡ Bind y n) × (unbound more ≡ [])
  choose (Update x op) is = absurd (let bad = left (Update x op) is in cc)
  choose (Deliver j m) is = absurd (let bad = left (Deliver j m) is in cc)
  choose (Extend d) is = absurd (let bad = left (Extend d) is in cc)
  choose (Bind y n) is = (y, n, is, left (Bind y n) is)

pub kept-results : (X : Frame) (h more : List Entry) → IsLegal X (h ++ more) → unbound more ≡ [] → IsKept X h (h ++ more)
kept-results X h [] legal results = subst (IsKept X h) (sym (append-nil h)) (record { graph_is = refl; peer = refl })
kept-results X h (e ∷ more) legal results =
    let b = result-of e more results in
    let same : (h ++ e ∷ []) ++ more ≡ h ++ e ∷ more = append_assoc h (e ∷ []) more in
    let all : IsLegal X ((h ++ e ∷ []) ++ more) = subst (IsLegal X) (sym same) legal in
    let one : IsLegal X (h ++ e ∷ []) = legal-first X (h ++ e ∷ []) more all in
    let rest : IsKept X (h ++ e ∷ []) ((h ++ e ∷ []) ++ more) = kept-results X (h ++ e ∷ []) more all b.3 in
    subst (IsKept X h) same (record {
      graph_is = rest.graph_is ∙ graph-bound X h e b.0 b.1 b.2;
      peer = rest.peer ∙ peer-bound X h (legal-first X h (e ∷ []) one) e b.0 b.1 b.2 (bound-derived X h e b.0 b.1 one b.2);
    })

met-same : (X : Frame) (h more : List Entry) → IsLegal X (h ++ more) → unbound more ≡ [] → (x : ℕ) (until : Until) → is_met X (h ++ more) (length (h ++ more)) x until ≡ is_met X h (length h) x until
met-same X h more legal results x until =
    let kept : IsKept X h (h ++ more) = kept-results X h more legal results in
    ap (meets (threshold_of [] until))
    (now-shown X (h ++ more) x ∙ (λ i. content_at (eval (kept.graph_is i) (kept.peer i).contents) x) ∙ sym (now-shown X h x))

results-goes : (X : Frame) (h more : List Entry) → IsLegal X (h ++ more) → unbound more ≡ [] → (left : List Step) (rest : List Placed) (failed : Option ℕ) → AreWithin (length h) rest
    → Goes X h left rest failed → Goes X (h ++ more) left rest failed
results-goes X h more legal results _ _ _ within ends = ends
results-goes X h more legal results _ _ _ within (does {left = left} {rest = rest} {failed = failed} goes) = does (results-goes X h more legal results left rest failed within.1 goes)
results-goes X h more legal results _ _ _ within (passes {x = x} {until = until} {left = left} {rest = rest} {failed = failed} met goes) =
    passes (by rest within met) (results-goes X h more legal results left rest failed within goes) where
      by : (r : List Placed) → AreWithin (length h) r → IsTrue (is_met X h (place_before (length h) r) x until) → IsTrue (is_met X (h ++ more) (place_before (length (h ++ more)) r) x until)
      by [] w m = met-same X h more legal results x until ∙ m
      by (d ∷ r) w m = met-within X h more d.0 x until w.0 ∙ m
results-goes X h more legal results _ _ _ within (fails {x = x} {until = until} unmet) = fails (met-same X h more legal results x until ∙ unmet)

made-append : (h more : List Entry) → unbound more ≡ [] → AreMadeByTheirCallers h → AreMadeByTheirCallers (h ++ more)
made-append [] [] results made = tt
made-append [] (e ∷ more) results made = let b = result-of e more results in (subst (MayMake e.by) (sym b.2) tt, made-append [] more b.3 tt)
made-append (e ∷ h) more results made = (made.0, made-append h more results made.1)

pub story-later : (g : List Decl) (script : Script) (p : ℕ) (h more : List Entry) (notes : List Note) (failed : Option ℕ) → IsStory g script p (record { entries = h; notes = notes; failed = failed })
    → IsLegal (frame_of g script.nodes p) (h ++ more) → unbound more ≡ [] → IsStory g script p (record { entries = h ++ more; notes = notes; failed = failed })
story-later g script p h more notes failed story legal results =
    let X : Frame = frame_of g script.nodes p in
    let quiet = results-quiet more results in
    let most : AreAtMost (length h) notes = placed-most 0 (length h) notes story.placed in
    record {
      legal = legal;
      made = made-append h more results story.made;
      undeclared = declared-append h more ∙ ap (λ (l : List Decl). declared h ++ l) quiet.1 ∙ append-nil (declared h) ∙ story.undeclared;
      placed = placed-later 0 (length h) (length (h ++ more)) notes (omega (arith, length-append h more)) story.placed;
      goes = subst (λ (l : List Placed). Goes X (h ++ more) (steps p 1 script.commands) l failed) (sym (deeds-later 0 notes h more (subst (λ (n : ℕ). AreAtMost n notes) (omega arith) most) quiet.0))
          (results-goes X h more legal results (steps p 1 script.commands) (deeds_from 0 notes h) failed (deeds-within 0 (length h) notes h (omega arith) most) story.goes);
    }

-- ---- notes in the order of their places

none-before : (i least most : ℕ) (notes : List Note) → i < least → ArePlaced least most notes → AllByRecursion (λ n. IsFalse (n.place == i)) notes
none-before i least most [] before h = tt
none-before i least most (n ∷ notes) before h = (grind (arith, nat_tests, before, h.0), none-before i n.place most notes (omega (arith, before, h.0)) h.2)

pub notes-none : (i most : ℕ) (notes : List Note) → ArePlaced (i + 1) most notes → notes_at i notes ≡ []
notes-none i most notes h = none-kept (λ (n : Note). n.place == i) notes (none-before i (i + 1) most notes (omega arith) h)

pub notes-one : (i most : ℕ) (n : Note) (notes : List Note) → ArePlaced i most (n ∷ notes) → n.place ≡ i → notes_at i (n ∷ notes) ≡ n ∷ notes_at i notes
notes-one i most n notes h is = ap (λ (b : Bool). cond b (n ∷ notes_at i notes) (notes_at i notes)) (let here : (n.place == i) ≡ true = grind (arith, nat_tests, is) in here)

abbrev Split : ℕ → ℕ → List Note → Type 0
Split i most notes = (rest : List Note) × (notes ≡ notes_at i notes ++ rest) × ArePlaced (i + 1) most rest

pub notes-first : (i most : ℕ) (notes : List Note) → ArePlaced i most notes → Split i most notes
notes-first i most [] h = ([], refl, tt)
notes-first i most (n ∷ notes) h = choose (n.place == i) refl (notes-first i most notes) where
  choose : (b : Bool) → (n.place == i) ≡ b → (ArePlaced i most notes → Split i most notes) → Split i most (n ∷ notes)
  choose true e later =
      let is : n.place ≡ i = grind (arith, nat_tests, e) in
      let split = later (subst (λ (k : ℕ). ArePlaced k most notes) is h.2) in
      (split.0, ap (λ (l : List Note). n ∷ l) split.1 ∙ sym (ap (λ (l : List Note). l ++ split.0) (notes-one i most n notes h is)), split.2)
  choose false e later =
      let past : i < n.place = grind (arith, nat_tests, e, h.0) in
      let placed : ArePlaced (i + 1) most (n ∷ notes) = (omega (arith, past), h.1, h.2) in
      (n ∷ notes, sym (ap (λ (l : List Note). l ++ n ∷ notes) (notes-none i most (n ∷ notes) placed)), placed)
