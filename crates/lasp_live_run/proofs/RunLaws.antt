-- What a run of nodes beside each other leaves, put together from what each of them left.
use Rattle.std.proofs.Common.{◌≡◌, ℕ, ◌<◌, List, [], ◌∷◌, ◌++◌, length, Some, refl, sym, ap, subst, ◌∙◌, arith}
use Rattle.std.specs.Prelude.{◌≢◌, slice_get}
use Rattle.std.specs.declared.alloc.Global.{Global}
use Rattle.std.specs.declared.vec.Vec.{Vec}
use Rattle.std.proofs.lemmas.Option.{same_Some, slice_get_within}
use Rattle.model_core.specs.Core.{Core}
use Rattle.model_graph.specs.Graph.{Decl}
use Rattle.model_journal.specs.Entry.{Entry, Frame}
use Rattle.model_journal.specs.Legal.{IsLegal}
use Rattle.model_runs.specs.Calls.{frame_of, unbound}
use Rattle.model_world.specs.Command.{Script}
use Rattle.model_live.specs.Lived.{AreOfOthers, AreStories, IsOfAnother, first_failed, first_number, heard_of, lesser, numbered}
use Rattle.model_live.specs.Story.{IsStory, Story, letters}
use Rattle.model_live.proofs.EndLaws.{result-of, story-later}
use Rattle.model_live.proofs.StoryLaws.{placed-most}
use Rattle.lasp_live.specs.Diary.{AreTold, notes_of, story_of}
use Rattle.lasp_live.specs.Ends.{In, Out}
use Rattle.lasp_live.specs.Fed.{HasFed}
use Rattle.lasp_live.specs.Steady.{setting}
use Rattle.lasp_live.specs.Texts.{AreTellable, IsTellable, stories_of}
use Rattle.lasp_live.specs.declared.diary.Diary.{Diary}
use Rattle.lasp_live.proofs.AtLaws.{told-later}
use Rattle.lasp_live.proofs.TextLaws.{stories-many, story-at}
use Rattle.lasp_live_run.specs.Posts.{HaveBegun, Ins, Outs}
use Rattle.lasp_live_run.specs.Run.{HaveLived, failed_of}
use Rattle.lasp_live_run.proofs.HeardLaws.{heard-pair}
use Rattle.lasp_live_run.proofs.PlaceLaws.{found-at}

-- ---- one node

-- a node at its end: what was seen when it was fed, and the results that came behind it until its store was closed
pub record IsEnded (g : List Decl) (script : Script) (p : ℕ) (core : Core) (d : Diary) (os : List Out) (es : List In) : Type 0 where
  pub seen : List Entry
  pub more : List Entry
  pub fed : HasFed (setting g script p) seen d os es
  pub frame : core.frame ≡ frame_of g script.nodes p
  pub entries : core.entries ≡ seen ++ more
  pub results : unbound more ≡ []
  pub legal : IsLegal core.frame core.entries

others-later : (nodes p : ℕ) (h more : List Entry) → AreOfOthers nodes p h → unbound more ≡ [] → AreOfOthers nodes p (h ++ more)
others-later nodes p [] [] others results = tt
others-later nodes p [] (e ∷ more) others results = let b = result-of e more results in (subst (IsOfAnother nodes p) (sym b.2) tt, others-later nodes p [] more tt b.3)
others-later nodes p (e ∷ h) more others results = (others.0, others-later nodes p h more others.1 results)

module _ (g : List Decl) (script : Script) (p : ℕ) (core : Core) (d : Diary) (os : List Out) (es : List In) (e : IsEnded g script p core d os es) where
  ended-story : IsStory g script p (story_of core.entries d)
  ended-story = subst (λ (l : List Entry). IsStory g script p (story_of l d)) (sym e.entries)
      (story-later g script p e.seen e.more (notes_of d) d.failed e.fed.story (subst (λ (z : Frame × List Entry). IsLegal z.0 z.1) (λ i. (e.frame i, e.entries i)) e.legal) e.results)

  ended-tellable : IsTellable g script.nodes p core d
  ended-tellable = record {
    frame = e.frame;
    undeclared = ended-story.undeclared;
    placed = ended-story.placed;
    told = subst (λ (l : List Entry). AreTold (frame_of g script.nodes p) l d.notes.items) (sym e.entries)
        (told-later (frame_of g script.nodes p) e.seen e.more d.notes.items (placed-most 0 (length e.seen) (notes_of d) e.fed.story.placed) e.fed.told);
  }

  ended-others : AreOfOthers script.nodes p core.entries
  ended-others = subst (AreOfOthers script.nodes p) (sym e.entries) (others-later script.nodes p e.seen e.more e.fed.others e.results)

-- ---- all nodes

-- what each left, and the ends of its mailboxes to and from each
pub record AreEnded (g : List Decl) (script : Script) (cores : List Core) (diaries : List Diary) (outs : Outs) (ins : Ins) : Type 0 where
  pub cores_many : length cores ≡ script.nodes
  pub diaries_many : length diaries ≡ script.nodes
  pub outs_many : length outs ≡ script.nodes
  pub ins_many : length ins ≡ script.nodes
  pub out_rows : (p : ℕ) (os : Vec Out Global) → slice_get outs p ≡ Some os → length os.items ≡ script.nodes
  pub in_rows : (p : ℕ) (es : Vec In Global) → slice_get ins p ≡ Some es → length es.items ≡ script.nodes
  pub each : (p : ℕ) (core : Core) (d : Diary) (os : Vec Out Global) (es : Vec In Global) → slice_get cores p ≡ Some core → slice_get diaries p ≡ Some d → slice_get outs p ≡ Some os → slice_get ins p ≡ Some es
      → IsEnded g script p core d os.items es.items

-- one of them, with all that it left
record IsThere (g : List Decl) (script : Script) (cores : List Core) (diaries : List Diary) (outs : Outs) (ins : Ins) (p : ℕ) : Type 0 where
  core : Core
  diary : Diary
  os : Vec Out Global
  es : Vec In Global
  core_at : slice_get cores p ≡ Some core
  diary_at : slice_get diaries p ≡ Some diary
  outs_at : slice_get outs p ≡ Some os
  ins_at : slice_get ins p ≡ Some es
  ended : IsEnded g script p core diary os.items es.items

module _ (g : List Decl) (script : Script) (cores : List Core) (diaries : List Diary) (outs : Outs) (ins : Ins) (all : AreEnded g script cores diaries outs ins) where
  node-there : (p : ℕ) → p < script.nodes → IsThere g script cores diaries outs ins p
  node-there p low =
      let core = found-at cores p (omega (arith, low, all.cores_many)) in
      let diary = found-at diaries p (omega (arith, low, all.diaries_many)) in
      let os = found-at outs p (omega (arith, low, all.outs_many)) in
      let es = found-at ins p (omega (arith, low, all.ins_many)) in
      record {
        core = core.0;
        diary = diary.0;
        os = os.0;
        es = es.0;
        core_at = core.1;
        diary_at = diary.1;
        outs_at = os.1;
        ins_at = es.1;
        ended = all.each p core.0 diary.0 os.0 es.0 core.1 diary.1 os.1 es.1;
      }

  many-told : length (stories_of cores diaries) ≡ script.nodes
  many-told = stories-many cores diaries (all.diaries_many ∙ sym all.cores_many) ∙ all.cores_many

  -- the story of a node
  told-at : (p : ℕ) (s : Story) → slice_get (stories_of cores diaries) p ≡ Some s → (t : IsThere g script cores diaries outs ins p) × (story_of t.core.entries t.diary ≡ s)
  told-at p s at =
      let t = node-there p (omega (arith, slice_get_within (stories_of cores diaries) p s at, many-told)) in
      (t, same_Some (story_of t.core.entries t.diary) s (sym (story-at cores diaries p t.core t.diary t.core_at t.diary_at) ∙ at))

  -- what one heard of another
  heard-there : HaveBegun outs ins → (p q : ℕ) (t : IsThere g script cores diaries outs ins p) (u : IsThere g script cores diaries outs ins q) → p < script.nodes → q < script.nodes → p ≢ q
      → heard_of q t.core.entries ≡ numbered (first_number q) (letters (frame_of g script.nodes q) (story_of u.core.entries u.diary))
  heard-there begun p q t u low small apart =
      let o = found-at u.os.items p (omega (arith, low, all.out_rows q u.os u.outs_at)) in
      let i = found-at t.es.items q (omega (arith, small, all.in_rows p t.es t.ins_at)) in
      ap (heard_of q) t.ended.entries
      ∙ heard-pair g script p q t.ended.seen t.ended.more u.ended.seen u.ended.more t.diary u.diary t.os.items u.os.items t.es.items u.es.items t.ended.fed u.ended.fed o.0 i.0 o.1 i.1 apart
      (begun q p u.os t.es o.0 i.0 u.outs_at t.ins_at o.1 i.1) t.ended.results
      ∙ ap (λ (l : List Entry). numbered (first_number q) (letters (frame_of g script.nodes q) (story_of l u.diary))) (sym u.ended.entries)

  stories-all : HaveBegun outs ins → AreStories g script (stories_of cores diaries)
  stories-all begun = record {
    many = many-told;
    each = λ p s at. (let t = told-at p s at in subst (IsStory g script p) t.1 (ended-story g script p t.0.core t.0.diary t.0.os.items t.0.es.items t.0.ended));
    heard = λ p q s t at here apart. (let one = told-at p s at in let other = told-at q t here in
        subst (λ (z : Story × Story). heard_of q z.0.entries ≡ numbered (first_number q) (letters (frame_of g script.nodes q) z.1)) (λ i. (one.1 i, other.1 i))
        (heard-there begun p q one.0 other.0 (omega (arith, slice_get_within (stories_of cores diaries) p s at, many-told)) (omega (arith, slice_get_within (stories_of cores diaries) q t here, many-told)) apart));
    others = λ p s at. (let t = told-at p s at in subst (λ (z : Story). AreOfOthers script.nodes p z.entries) t.1 (ended-others g script p t.0.core t.0.diary t.0.os.items t.0.es.items t.0.ended));
  }

  tellable-all : AreTellable g script.nodes cores diaries
  tellable-all = record {
    many = all.diaries_many ∙ sym all.cores_many;
    each = λ p core d at here. (let t = node-there p (omega (arith, slice_get_within cores p core at, all.cores_many)) in
        subst (λ (z : Core × Diary). IsTellable g script.nodes p z.0 z.1) (λ i. (same_Some t.core core (sym t.core_at ∙ at) i, same_Some t.diary d (sym t.diary_at ∙ here) i))
        (ended-tellable g script p t.core t.diary t.os.items t.es.items t.ended));
  }

  pub lived : HaveBegun outs ins → HaveLived g script cores diaries
  lived begun = record { many = all.cores_many; tellable = tellable-all; stories = stories-all begun }

-- ---- the least command that failed

-- the diaries tell it
pub failed-told : (cores : List Core) (diaries : List Diary) → length diaries ≡ length cores → first_failed (stories_of cores diaries) ≡ failed_of diaries
failed-told [] [] many = refl
failed-told [] (d ∷ diaries) many = absurd (omega (arith, many))
failed-told (c ∷ cores) [] many = absurd (omega (arith, many))
failed-told (c ∷ cores) (d ∷ diaries) many = ap (lesser d.failed) (failed-told cores diaries (omega (arith, many)))
