-- Desks that are taken and given back, one after the other.
use Rattle.std.proofs.Common.{◌≡◌, ℕ, ◌+◌, ◌<◌, ◌≤◌, ◌⊎◌, inl, inr, List, [], ◌∷◌, ◌++◌, length, map, take, drop, Option, Some, None, refl, sym, ap, subst, ◌∙◌, append-nil, append_assoc, arith}
use Rattle.std.specs.Prelude.{All, slice_get, slice_index_or}
use Rattle.std.proofs.lemmas.List.{drop_all, length-append, length-map, map-append}
use Rattle.std.proofs.lemmas.List.Elements.{All-push}
use Rattle.std.proofs.lemmas.Option.{get_or_from_slice_get, slice_get_within}
use Rattle.model_live.specs.Lived.{lesser}
use Rattle.model_values.proofs.ListLaws.{drop-at}
use Rattle.lasp_live.specs.declared.diary.Diary.{Diary}
use Rattle.lasp_live_run.specs.Posts.{Ins, Outs}
use Rattle.lasp_live_run.specs.Run.{AreSeated, IsBack, failed_of}
use Rattle.lasp_live_run.specs.declared.run.Back.{Back}
use Rattle.lasp_live_run.specs.declared.seat.Seat.{Seat}
use Rattle.lasp_live_run.proofs.PlaceLaws.{get-either, nothing}
use Rattle.lasp_store.specs.Turn.{Knows}
use Rattle.lasp_store_node.specs.View.{IsFeed}

-- what was taken from the one list went to the other
pub moved-on : {X Y : Type 0} (f : X → Y) (xs : List X) (x : X) (left rest all : List Y) → left ≡ f x ∷ rest → map f xs ++ left ≡ all → map f (xs ++ x ∷ []) ++ rest ≡ all
moved-on {X} {Y} f xs x left rest all is so_far =
    ap (λ (l : List Y). l ++ rest) (map-append f xs (x ∷ []))
    ∙ append_assoc (map f xs) (f x ∷ []) rest
    ∙ ap (λ (l : List Y). map f xs ++ l) (sym is)
    ∙ so_far

-- the first was taken
pub head-taken : {X : Type 0} (xs rest : List X) (x : X) → 0 < length xs → x ≡ slice_index_or xs 0 x → rest ≡ take 0 xs ++ drop (0 + 1) xs → xs ≡ x ∷ rest
head-taken [] rest x some first left = absurd (omega (arith, some))
head-taken {X} (y ∷ ys) rest x some first left = λ i. sym first i ∷ sym left i

-- nothing is left of it
pub moved-all : {X Y : Type 0} (f : X → Y) (xs : List X) (left all : List Y) → map f xs ++ left ≡ all → length xs ≡ length all → map f xs ≡ all
moved-all {X} {Y} f xs left all so_far size =
    sym (append-nil (map f xs))
    ∙ ap (λ (l : List Y). map f xs ++ l) (sym (nothing left (let whole = ap (λ (l : List Y). length l) so_far in omega (arith, whole, size, length-append (map f xs) left, length-map xs f))))
    ∙ so_far

-- what holds of all holds of what stands at a place
pub all-at : {X : Type 0} (P : X → Type 0) (xs : List X) (p : ℕ) (x : X) → All P xs → slice_get xs p ≡ Some x → P x
all-at P xs p x all at = subst P (get_or_from_slice_get xs p x x at) (all p x (slice_get_within xs p x at))

-- ---- desks are taken

-- all were
pub desks-taken : (seats : List (Seat Knows)) (feeds left : List Knows) (outs : Outs) (outs_left : Outs) (ins : Ins) (ins_left : Ins) → ((p : ℕ) (s : Seat Knows) → slice_get seats p ≡ Some s → (s.me ≡ p) × (s.diary ≡ None))
    → map (λ (s : Seat Knows). s.feeder) seats ++ left ≡ feeds → map (λ (s : Seat Knows). s.outs) seats ++ outs_left ≡ outs → map (λ (s : Seat Knows). s.ins) seats ++ ins_left ≡ ins
    → length seats ≡ length feeds → length seats ≡ length outs → length seats ≡ length ins → AreSeated feeds outs ins seats
desks-taken seats feeds left outs outs_left ins ins_left each feeders outlets inlets f o i = record {
  each = each;
  feeders = moved-all (λ (s : Seat Knows). s.feeder) seats left feeds feeders f;
  outlets = moved-all (λ (s : Seat Knows). s.outs) seats outs_left outs outlets o;
  inlets = moved-all (λ (s : Seat Knows). s.ins) seats ins_left ins inlets i;
}

pub desk-next : (seats : List (Seat Knows)) (s : Seat Knows) → ((p : ℕ) (t : Seat Knows) → slice_get seats p ≡ Some t → (t.me ≡ p) × (t.diary ≡ None)) → s.me ≡ length seats → s.diary ≡ None
    → (p : ℕ) (t : Seat Knows) → slice_get (seats ++ s ∷ []) p ≡ Some t → (t.me ≡ p) × (t.diary ≡ None)
desk-next seats s each me none p t at = choose (get-either seats s p t at) where
  choose : (slice_get seats p ≡ Some t) ⊎ ((p ≡ length seats) × (t ≡ s)) → (t.me ≡ p) × (t.diary ≡ None)
  choose (inl there) = each p t there
  choose (inr last) = (ap (λ (u : Seat Knows). u.me) last.1 ∙ me ∙ sym last.0, ap (λ (u : Seat Knows). u.diary) last.1 ∙ none)

-- ---- desks give back

pub back-begins : (b : Back) → b.feeds.items ≡ [] → b.outs.items ≡ [] → b.ins.items ≡ [] → b.diaries.items ≡ [] → IsBack [] b
back-begins b feeds outs ins diaries = record {
  feeds = feeds;
  are = subst (λ (l : List Knows). All (λ (f : Knows). IsFeed f.lock f) l) (sym feeds) (λ k d low. absurd (omega (arith, low)));
  outs = outs;
  ins = ins;
  diaries = ap (map (λ (d : Diary). Some d)) diaries;
}

-- one more element on both sides
mapped-more : {X Y : Type 0} (f : X → Y) (xs : List X) (x : X) (now new : List Y) (y : Y) → now ≡ map f xs → new ≡ now ++ y ∷ [] → y ≡ f x → new ≡ map f (xs ++ x ∷ [])
mapped-more {X} {Y} f xs x now new y so_far grown is = grown ∙ (λ i. so_far i ++ is i ∷ []) ∙ sym (map-append f xs (x ∷ []))

pub back-next : (done : List (Seat Knows)) (s : Seat Knows) (f : Knows) (d : Diary) (b new : Back) → IsBack done b → s.diary ≡ Some d → f ≡ s.feeder → IsFeed f.lock f → new.diaries.items ≡ b.diaries.items ++ d ∷ [] → new.feeds.items ≡ b.feeds.items ++ f ∷ []
    → new.outs.items ≡ b.outs.items ++ s.outs ∷ [] → new.ins.items ≡ b.ins.items ++ s.ins ∷ [] → IsBack (done ++ s ∷ []) new
back-next done s f d b new back there is feed diaries feeds outs ins = record {
  feeds = mapped-more (λ (t : Seat Knows). t.feeder) done s b.feeds.items new.feeds.items f back.feeds feeds is;
  are = subst (λ (l : List Knows). All (λ (q : Knows). IsFeed q.lock q) l) (sym feeds) (All-push (λ (q : Knows). IsFeed q.lock q) b.feeds.items f back.are feed);
  outs = mapped-more (λ (t : Seat Knows). t.outs) done s b.outs.items new.outs.items s.outs back.outs outs refl;
  ins = mapped-more (λ (t : Seat Knows). t.ins) done s b.ins.items new.ins.items s.ins back.ins ins refl;
  diaries = mapped-more (λ (t : Seat Knows). t.diary) done s (map (λ (e : Diary). Some e) b.diaries.items) (map (λ (e : Diary). Some e) new.diaries.items) (Some d) back.diaries
      (ap (map (λ (e : Diary). Some e)) diaries ∙ map-append (λ (e : Diary). Some e) b.diaries.items (d ∷ [])) (sym there);
}

-- ---- the least command that failed

pub failed-next : (diaries : List Diary) (p : ℕ) (d : Diary) (failed : Option ℕ) → slice_get diaries p ≡ Some d → failed ≡ failed_of (drop (p + 1) diaries) → lesser d.failed failed ≡ failed_of (drop p diaries)
failed-next diaries p d failed at so_far = ap (lesser d.failed) so_far ∙ sym (ap failed_of (drop-at diaries p d at))

pub failed-none : (diaries : List Diary) (p : ℕ) → length diaries ≤ p → None ≡ failed_of (drop p diaries)
failed-none diaries p past = sym (ap failed_of (drop_all p diaries past))
