-- The text of nodes, note by note, entry by entry and node by node.
use Rattle.std.proofs.Common.{◌≡◌, ℕ, zero, suc, ◌+◌, ◌<◌, ◌≤◌, ◌==◌, Bool, true, false, cond, List, [], ◌∷◌, ◌++◌, length, map, drop, Some, refl, sym, ap, subst, ◌∙◌, append-nil, append_assoc, arith}
use Rattle.std.specs.Prelude.{slice_get}
use Rattle.std.proofs.lemmas.Bool.Decides.{nat_tests}
use Rattle.std.proofs.lemmas.List.{drop_all}
use Rattle.std.proofs.lemmas.Option.{same_Some, slice_get_within}
use Rattle.model_values.proofs.ListLaws.{drop-at}
use Rattle.model_graph.specs.Graph.{Decl}
use Rattle.model_journal.specs.Entry.{Act, Update, Deliver, Bind, Extend, Entry, Frame}
use Rattle.model_live.specs.Lived.{counted_lines, live_text, note_line, note_lines, lines_from, stories_lines, story_lines}
use Rattle.model_live.specs.Story.{Note, Story, ArePlaced, notes_at}
use Rattle.model_live.proofs.EndLaws.{notes-none, notes-one}
use Rattle.model_core.specs.Core.{Core}
use Rattle.model_core.specs.Trace.{entry_line, updates_with}
use Rattle.model_journal.specs.Journal.{counts}
use Rattle.model_runs.specs.Calls.{frame_of}
use Rattle.model_world.specs.Line.{known_line}
use Rattle.model_world.specs.Report.{known_lines}
use Rattle.lasp_live.specs.Diary.{story_of}
use Rattle.lasp_live.specs.Texts.{AreLeft, AreTellable, peer_in, stories_of}
use Rattle.lasp_live.specs.declared.diary.Diary.{Diary}

-- ---- the notes of a place

-- the notes of a place as far as they were told, the next one being number n
pub record AreTelling (g : List Decl) (X : Frame) (entries : List Entry) (p place most n : ℕ) (notes : List Note) (old now : List ℕ) : Type 0 where
  pub within : n ≤ length notes
  pub placed : ArePlaced place most (drop n notes)
  pub later : (j : ℕ) → place < j → notes_at j notes ≡ notes_at j (drop n notes)
  pub text : now ++ note_lines g X entries p (notes_at place (drop n notes)) ≡ old ++ note_lines g X entries p (notes_at place notes)

-- a note of another place is none of this one
elsewhere : (j : ℕ) (note : Note) (rest : List Note) → (note.place ≡ j → ⊥) → notes_at j (note ∷ rest) ≡ notes_at j rest
elsewhere j note rest other = ap (λ (b : Bool). cond b (note ∷ notes_at j rest) (notes_at j rest)) (choose (note.place == j) refl) where
  choose : (b : Bool) → (note.place == j) ≡ b → (note.place == j) ≡ false
  choose true e = absurd (other (grind (arith, nat_tests, e)))
  choose false e = e

module _ (g : List Decl) (X : Frame) (entries : List Entry) (p place most : ℕ) (notes : List Note) (old : List ℕ) where
  pub telling-begins : (n : ℕ) → AreLeft place most n notes → AreTelling g X entries p place most n notes old old
  telling-begins n left = record {
    within = left.within;
    placed = left.placed;
    later = λ j past. left.later j (omega (arith, past));
    text = ap (λ (ns : List Note). old ++ note_lines g X entries p ns) (sym (left.later place (omega arith)));
  }

  pub telling-next : (n : ℕ) (note : Note) (now new : List ℕ) → AreTelling g X entries p place most n notes old now → slice_get notes n ≡ Some note → note.place ≡ place → new ≡ now ++ note_line g X entries p note
      → AreTelling g X entries p place most (n + 1) notes old new
  telling-next n note now new at there here pushed =
      let is : drop n notes ≡ note ∷ drop (n + 1) notes = drop-at notes n note there in
      let placed : ArePlaced place most (note ∷ drop (n + 1) notes) = subst (ArePlaced place most) is at.placed in
      let rest : List Note = drop (n + 1) notes in
      record {
        within = (let low = slice_get_within notes n note there in omega (arith, low));
        placed = subst (λ (i : ℕ). ArePlaced i most rest) here placed.2;
        later = λ j past. at.later j past ∙ ap (notes_at j) is ∙ elsewhere j note rest (λ e. omega (arith, e, here, past));
        text = ap (λ (l : List ℕ). l ++ note_lines g X entries p (notes_at place rest)) pushed ∙ append_assoc now (note_line g X entries p note) (note_lines g X entries p (notes_at place rest))
            ∙ ap (λ (ns : List Note). now ++ note_lines g X entries p ns) (sym (ap (notes_at place) is ∙ notes-one place most note rest placed here)) ∙ at.text;
      }

  -- nothing is left of the place
  telling-none : (n : ℕ) (now : List ℕ) → AreTelling g X entries p place most n notes old now → ArePlaced (place + 1) most (drop n notes) → now ≡ old ++ note_lines g X entries p (notes_at place notes)
  telling-none n now at past =
      sym (append-nil now) ∙ ap (λ (ns : List Note). now ++ note_lines g X entries p ns) (sym (notes-none place most (drop n notes) past)) ∙ at.text

  -- behind the last note, or at one of another place
  past-end : (n : ℕ) → length notes ≤ n → ArePlaced (place + 1) most (drop n notes)
  past-end n past = subst (ArePlaced (place + 1) most) (sym (drop_all n notes past)) tt

  past-place : (n : ℕ) (note : Note) → slice_get notes n ≡ Some note → (note.place ≡ place → ⊥) → ArePlaced place most (drop n notes) → ArePlaced (place + 1) most (drop n notes)
  past-place n note there other placed =
      let is : drop n notes ≡ note ∷ drop (n + 1) notes = drop-at notes n note there in
      let split : ArePlaced place most (note ∷ drop (n + 1) notes) = subst (ArePlaced place most) is placed in
      subst (ArePlaced (place + 1) most) (sym is) (omega (arith, split.0, other), split.1, split.2)

  pub left-past : (n : ℕ) (now : List ℕ) → AreTelling g X entries p place most n notes old now → ArePlaced (place + 1) most (drop n notes) → AreLeft (place + 1) most n notes × (now ≡ old ++ note_lines g X entries p (notes_at place notes))
  left-past n now at past = (record { within = at.within; placed = past; later = λ j low. at.later j (omega (arith, low)) }, telling-none n now at past)

  pub telling-ends : (n : ℕ) (now : List ℕ) → AreTelling g X entries p place most n notes old now → length notes ≤ n → AreLeft (place + 1) most n notes × (now ≡ old ++ note_lines g X entries p (notes_at place notes))
  telling-ends n now at past = left-past n now at (past-end n past)

  pub telling-stops : (n : ℕ) (note : Note) (now : List ℕ) → AreTelling g X entries p place most n notes old now → slice_get notes n ≡ Some note → (note.place ≡ place → ⊥) → AreLeft (place + 1) most n notes × (now ≡ old ++ note_lines g X entries p (notes_at place notes))
  telling-stops n note now at there other = left-past n now at (past-place n note there other at.placed)

-- ---- a story

-- the lines of a story as far as they were told: the next entry is number i, before which so many updates stand, and the next note is number n
pub record IsTelling (g : List Decl) (X : Frame) (p : ℕ) (s : Story) (i updates n : ℕ) (old now : List ℕ) : Type 0 where
  pub few : updates ≤ i
  pub left : AreLeft i (length s.entries) n s.notes
  pub text : now ++ lines_from g X p s i updates (drop i s.entries) ≡ old ++ lines_from g X p s 0 0 s.entries

module _ (g : List Decl) (X : Frame) (p : ℕ) (s : Story) (old : List ℕ) where
  pub story-begins : ArePlaced 0 (length s.entries) s.notes → IsTelling g X p s 0 0 0 old old
  story-begins placed = record { few = omega arith; left = record { within = omega arith; placed = placed; later = λ j low. refl }; text = refl }

  pub story-next : (i updates more n m : ℕ) (e : Entry) (now mid new : List ℕ) → IsTelling g X p s i updates n old now → slice_get s.entries i ≡ Some e → AreLeft (i + 1) (length s.entries) m s.notes
      → mid ≡ now ++ note_lines g X s.entries p (notes_at i s.notes) → more ≡ updates_with updates e.act → new ≡ mid ++ entry_line g p i more e → more ≤ i + 1 → IsTelling g X p s (i + 1) more m old new
  unfolding lines_from
  story-next i updates more n m e now mid new at there left noted counted pushed few = record {
    few = few;
    left = left;
    text =
        ap (λ (l : List ℕ). l ++ rest more) (pushed ∙ ap (λ (l : List ℕ). l ++ entry_line g p i more e) noted)
        ∙ ap (λ (l : List ℕ). l ++ rest more) (append_assoc now notes (entry_line g p i more e))
        ∙ append_assoc now (notes ++ entry_line g p i more e) (rest more)
        ∙ ap (λ (k : ℕ). now ++ (notes ++ entry_line g p i k e ++ rest k)) counted
        ∙ ap (λ (l : List Entry). now ++ lines_from g X p s i updates l) (sym (drop-at s.entries i e there))
        ∙ at.text;
  } where
    notes : List ℕ
    notes = note_lines g X s.entries p (notes_at i s.notes)

    rest : ℕ → List ℕ
    rest k = lines_from g X p s (i + 1) k (drop (i + 1) s.entries)

  pub story-ends : (i updates n : ℕ) (now new : List ℕ) → IsTelling g X p s i updates n old now → length s.entries ≤ i → new ≡ now ++ note_lines g X s.entries p (notes_at i s.notes) → new ≡ old ++ lines_from g X p s 0 0 s.entries
  unfolding lines_from
  story-ends i updates n now new at past noted = noted ∙ ap (λ (l : List Entry). now ++ lines_from g X p s i updates l) (sym (drop_all i s.entries past)) ∙ at.text

pub ruleset tellings = (telling-begins, telling-next, telling-ends, telling-stops)

-- an entry is one update at most
pub counted-most : (k : ℕ) (a : Act) → updates_with k a ≤ k + 1
counted-most k (Update x op) = omega arith
counted-most k (Deliver i m) = omega arith
counted-most k (Bind y n) = omega arith
counted-most k (Extend d) = omega arith

pub ruleset stories = (story-begins, story-next, story-ends)

-- ---- all nodes

-- the story of a node among those of all
pub story-at : (cores : List Core) (diaries : List Diary) (p : ℕ) (core : Core) (d : Diary) → slice_get cores p ≡ Some core → slice_get diaries p ≡ Some d → slice_get (stories_of cores diaries) p ≡ Some (story_of core.entries d)
story-at [] diaries p core d at there = absurd cc
story-at (c ∷ cores) [] p core d at there = absurd cc
story-at (c ∷ cores) (e ∷ diaries) zero core d at there = λ i. Some (story_of (same_Some c core at i).entries (same_Some e d there i))
story-at (c ∷ cores) (e ∷ diaries) (suc p) core d at there = story-at cores diaries p core d at there

pub stories-many : (cores : List Core) (diaries : List Diary) → length diaries ≡ length cores → length (stories_of cores diaries) ≡ length cores
stories-many [] diaries many = refl
stories-many (c ∷ cores) [] many = absurd (omega (arith, many))
stories-many (c ∷ cores) (d ∷ diaries) many = let rest = stories-many cores diaries (omega (arith, many)) in omega (arith, rest)

module _ (g : List Decl) (nodes : ℕ) where
  pub stories-next : (p : ℕ) (stories : List Story) (s : Story) (now new all : List ℕ) → now ++ stories_lines g nodes p (drop p stories) ≡ all → slice_get stories p ≡ Some s → new ≡ now ++ story_lines g nodes p s
      → new ++ stories_lines g nodes (p + 1) (drop (p + 1) stories) ≡ all
  stories-next p stories s now new all so_far at pushed =
      ap (λ (l : List ℕ). l ++ stories_lines g nodes (p + 1) (drop (p + 1) stories)) pushed
      ∙ append_assoc now (story_lines g nodes p s) (stories_lines g nodes (p + 1) (drop (p + 1) stories))
      ∙ ap (λ (ss : List Story). now ++ stories_lines g nodes p ss) (sym (drop-at stories p s at)) ∙ so_far

  pub stories-end : (p : ℕ) (stories : List Story) (now all : List ℕ) → now ++ stories_lines g nodes p (drop p stories) ≡ all → length stories ≤ p → now ≡ all
  stories-end p stories now all so_far past =
      sym (append-nil now) ∙ ap (λ (ss : List Story). now ++ stories_lines g nodes p ss) (sym (drop_all p stories past)) ∙ so_far

-- what the nodes know, as their stories tell it
known-told : (g : List Decl) (nodes p : ℕ) (cores : List Core) (diaries : List Diary) → length diaries ≡ length cores → ((i : ℕ) (core : Core) → slice_get cores i ≡ Some core → core.frame ≡ frame_of g nodes (p + i))
    → known_lines p (map peer_in cores) ≡ counted_lines g nodes p (stories_of cores diaries)
known-told g nodes p [] diaries many frames = refl
known-told g nodes p (c ∷ cores) [] many frames = absurd (omega (arith, many))
known-told g nodes p (c ∷ cores) (d ∷ diaries) many frames =
    let here : c.frame ≡ frame_of g nodes p = frames 0 c refl ∙ ap (frame_of g nodes) (let same : p + 0 ≡ p = omega arith in same) in
    let rest : known_lines (p + 1) (map peer_in cores) ≡ counted_lines g nodes (p + 1) (stories_of cores diaries) =
    known-told g nodes (p + 1) cores diaries (omega (arith, many)) (λ i core at. frames (suc i) core at ∙ ap (frame_of g nodes) (let same : p + suc i ≡ p + 1 + i = omega arith in same)) in
    λ i. known_line p (counts (here i) c.entries) ++ rest i

diary-at : (diaries : List Diary) (p : ℕ) → p < length diaries → (d : Diary) × (slice_get diaries p ≡ Some d)
diary-at [] p low = absurd (omega (arith, low))
diary-at (d ∷ diaries) zero low = (d, refl)
diary-at (d ∷ diaries) (suc p) low = diary-at diaries p (omega (arith, low))

pub text-told : (g : List Decl) (cores : List Core) (diaries : List Diary) (none first all : List ℕ) → AreTellable g (length cores) cores diaries → none ≡ [] → first ≡ none ++ stories_lines g (length cores) 0 (stories_of cores diaries)
    → all ≡ first ++ known_lines 0 (map peer_in cores) → all ≡ live_text g (length cores) (stories_of cores diaries)
text-told g cores diaries none first all told empty stories known =
    known
    ∙ (λ i. (stories ∙ ap (λ (l : List ℕ). l ++ stories_lines g (length cores) 0 (stories_of cores diaries)) empty) i
    ++ known-told g (length cores) 0 cores diaries told.many (λ p core at. (let d = diary-at diaries p (omega (arith, slice_get_within cores p core at, told.many)) in (told.each p core d.0 at d.1).frame ∙ ap (frame_of g (length cores)) (let same : p ≡ 0 + p = omega arith in same))) i)

pub ruleset texts = (text-told)
