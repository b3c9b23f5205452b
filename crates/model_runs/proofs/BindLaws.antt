-- Binds change no graph, no counts and no source: a legal journal has those of its other entries.
use Rattle.std.proofs.Common.{◌≡◌, ℕ, Bool, true, false, cond, not, if◌then◌else◌, ◌==◌, IsTrue, List, [], ◌∷◌, map, refl, sym, ap, subst, ◌∙◌}
use Rattle.model_graph.specs.Graph.{is_source, kind_at}
use Rattle.model_graph.specs.Evaluation.{content_at}
use Rattle.model_journal.specs.Entry.{Act, Update, Deliver, Bind, Extend, Entry, Frame}
use Rattle.model_journal.specs.Journal.{Journal, next, run, start, journal, graph, val, counts}
use Rattle.model_journal.specs.Callers.{MayMake, AreMadeByTheirCallers, made_by}
use Rattle.model_journal.specs.Legal.{IsLegalFrom, IsLegal}
use Rattle.model_journal.proofs.CallerLaws.{feed-graph, feed-counts, feed-sources}
use Rattle.model_runs.specs.Calls.{is_bind, unbound}

-- the binds said to be caller 1's, and all others caller 0's
told : Entry → Entry
told e = record { by = if is_bind e.act then 1 else 0; act = e.act }

-- who made an entry changes nothing that it comes to
told-run : (X : Frame) (j : Journal) (h : List Entry) → run X j (map told h) ≡ run X j h
unfolding told
told-run X j [] = refl
told-run X j (e ∷ h) = told-run X (next X j e) h

told-journal : (X : Frame) (h : List Entry) → journal X (map told h) ≡ journal X h
told-journal X h = told-run X (start X) h

told-legal_from : (X : Frame) (j : Journal) (h : List Entry) → IsLegalFrom X j h → IsLegalFrom X j (map told h)
unfolding told
told-legal_from X j [] legal = tt
told-legal_from X j (e ∷ h) legal = (legal.0, legal.1, told-legal_from X (next X j e) h legal.2)

told-legal : (X : Frame) (h : List Entry) → IsLegal X h → IsLegal X (map told h)
told-legal X h legal = record { opening = legal.opening; member = legal.member; in_turn = told-legal_from X (start X) h legal.in_turn }

may-make : (a : Act) → MayMake (if is_bind a then 1 else 0) a
may-make (Update x op) = refl
may-make (Deliver i m) = refl
may-make (Bind y n) = tt
may-make (Extend d) = refl

told-made : (h : List Entry) → AreMadeByTheirCallers (map told h)
unfolding told
told-made [] = tt
told-made (e ∷ h) = (may-make e.act, told-made h)

-- so caller 0 made those that are no binds
told-unbound : (h : List Entry) → made_by 0 (map told h) ≡ map told (unbound h)
unfolding told
told-unbound [] = refl
told-unbound (e ∷ h) = choose (is_bind e.act) refl (told-unbound h) where
  choose : (b : Bool) → is_bind e.act ≡ b → made_by 0 (map told h) ≡ map told (unbound h)
      → cond ((if is_bind e.act then 1 else 0) == 0) (told e ∷ made_by 0 (map told h)) (made_by 0 (map told h)) ≡ map told (cond (not (is_bind e.act)) (e ∷ unbound h) (unbound h))
  choose true is rest =
      ap (λ (b : Bool). cond ((if b then 1 else 0) == 0) (told e ∷ made_by 0 (map told h)) (made_by 0 (map told h))) is
      ∙ rest ∙ sym (ap (λ (b : Bool). map told (cond (not b) (e ∷ unbound h) (unbound h))) is)
  choose false is rest =
      ap (λ (b : Bool). cond ((if b then 1 else 0) == 0) (told e ∷ made_by 0 (map told h)) (made_by 0 (map told h))) is
      ∙ ap (λ (k : List Entry). told e ∷ k) rest ∙ sym (ap (λ (b : Bool). map told (cond (not b) (e ∷ unbound h) (unbound h))) is)

fed-journal : (X : Frame) (h : List Entry) → journal X (made_by 0 (map told h)) ≡ journal X (unbound h)
fed-journal X h = ap (journal X) (told-unbound h) ∙ told-journal X (unbound h)

pub unbound-graph : (X : Frame) (h : List Entry) → IsLegal X h → graph X h ≡ graph X (unbound h)
unbound-graph X h legal =
    ap (λ (j : Journal). j.now.graph) (sym (told-journal X h)) ∙ feed-graph X (map told h) (told-legal X h legal) (told-made h) ∙ ap (λ (j : Journal). j.now.graph) (fed-journal X h)

pub unbound-counts : (X : Frame) (h : List Entry) → IsLegal X h → counts X h ≡ counts X (unbound h)
unbound-counts X h legal =
    ap (λ (j : Journal). j.now.counts) (sym (told-journal X h)) ∙ feed-counts X (map told h) (told-legal X h legal) (told-made h) ∙ ap (λ (j : Journal). j.now.counts) (fed-journal X h)

pub unbound-val : (X : Frame) (h : List Entry) → IsLegal X h → (x : ℕ) → IsTrue (is_source (kind_at (graph X h) x)) → val X h x ≡ val X (unbound h) x
unbound-val X h legal x source =
    ap (λ (j : Journal). content_at j.now.contents x) (sym (told-journal X h))
    ∙ feed-sources X (map told h) (told-legal X h legal) (told-made h) x (subst (λ (j : Journal). IsTrue (is_source (kind_at j.now.graph x))) (sym (told-journal X h)) source)
    ∙ ap (λ (j : Journal). content_at j.now.contents x) (fed-journal X h)
