-- The ledger as it is made, a seat that is cut from the outlet's, and a load.
use Rattle.std.proofs.Common.{◌≡◌, ◌≢◌, ⊎_elim, ℕ, Bool, true, false, List, [], ◌++◌, All, Some, length, set, refl, ap, sym, subst, ◌∙◌, inl, inr, append-nil}
use Rattle.std.proofs.lemmas.List.Elements.{All-weaker, All-append, All-nil}
use mathlib.Core.Option.{none}
use mathlib.Core.List.{IsPrefix}
use Rattle.atomic_table.specs.Table.{State, Me, Allows, Splits, step, opening, keeps}
use Rattle.lasp_mail.specs.declared.witness.Witness.{Witness}
use Rattle.lasp_mail.specs.Witness.{Setting, Follows, Fits, Keeps, Told, Recalls, IsOwner, all_of, founder, reader_of, issued, mark_of, recalled}
use Rattle.lasp_mail.proofs.Prefixes.{prefix_more, All-prefix}
use Rattle.lasp_mail.proofs.Seats.{off, on, each_one, each_set, each_new}

module _ (S E F : Type 0) (frame_of : E → F) (x : F) where
  abbrev W : Type 0
  W = Witness E F

  abbrev Ledger : Type 0
  Ledger = State S W

  abbrev pub Rule : Ledger → Type 0
  Rule = Keeps frame_of x

  -- what the rule asks of a seat that may be spent
  abbrev pub Live : Setting E → ℕ → W → Type 0
  Live c i v = v.spent ≡ false → Fits x c i v

  -- all that a reader has was put
  pub whole : (c : Setting E) (i : ℕ) (l : List E) → Follows c i l → IsPrefix l (c.list ++ c.next)
  whole c i l follows = ⊎_elim (λ (p : IsPrefix l c.list). prefix_more l c.list c.next p) (λ (t : (i ≡ c.mark) × (l ≡ c.list ++ c.next)). ([], append-nil l ∙ t.1)) follows

  -- and what the owner has is all that was put
  pub owned : (c : Setting E) (i : ℕ) (v : W) → Fits x c i v → v.owner ≡ true → all_of v ≡ c.list ++ c.next
  owned c i v f owner = let t = f.owns owner in ap (λ l. l ++ v.next) t.1 ∙ ap (λ l. c.list ++ l) t.2

  known : (c : Setting E) (i : ℕ) (v : W) → Fits x c i v → IsPrefix (all_of v) (c.list ++ c.next)
  known c i v f = by v.owner refl
    where
      by : (b : Bool) → v.owner ≡ b → IsPrefix (all_of v) (c.list ++ c.next)
      by true e = ([], append-nil (all_of v) ∙ owned c i v f e)
      by false e = let t = f.follows e in subst (λ l. IsPrefix (v.list ++ l) (c.list ++ c.next)) (sym t.0) (subst (λ l. IsPrefix l (c.list ++ c.next)) (sym (append-nil v.list)) (whole c i v.list t.1))

  pub opens : (ws : List ℕ) → Rule (opening ws [] (founder x))
  opens ws =
      let c : Setting E = record { list = []; next = []; owner = 0; mark = 0 } in
      let mine : Fits x c 0 (founder x) = record { frame_is = refl; owns = λ _. (refl, refl, refl); follows = λ e. on e; notes = λ e. off e } in
      (c, record { each = each_one (Live c) (founder x) (λ _. mine); frames = All-nil _ })

  pub reads : (id : ℕ) (v : W) → IsOwner v → Splits Rule id v v (reader_of v)
  reads id v owner s holds at =
      let c : Setting E = holds.0 in let r = holds.1 in
      let f = r.each id v at owner.0 in
      let new : Fits x c (length (set s.views id v)) (reader_of v) = record { frame_is = f.frame_is; owns = λ e. off e; follows = λ _. (refl, inl (c.list, refl)); notes = λ e. off e } in
      (c, record { each = each_new (Live c) (set s.views id v) (reader_of v) (λ _. new) (each_set (Live c) s.views id v (λ _. f) (λ j u _ e. r.each j u e)); frames = r.frames })

  pub issues : (id : ℕ) (v : W) (items : List E) → IsOwner v → All (λ e. Some (frame_of e) ≡ v.frame) items → Splits Rule id v (issued items v) (mark_of items v)
  issues id v items owner framed s holds at =
      let c : Setting E = holds.0 in let r = holds.1 in
      let f = r.each id v at owner.0 in
      let place = (f.owns owner.1).0 in
      let all : all_of v ≡ c.list ++ c.next = owned c id v f owner.1 in
      let w : W = issued items v in let a : W = mark_of items v in
      let vs : List W = set s.views id w in
      let d : Setting E = record { list = c.list ++ c.next; next = items; owner = c.owner; mark = length vs } in
      let mine : Fits x d id w = record { frame_is = f.frame_is; owns = λ _. (place, all, refl); follows = λ e. on (sym owner.1 ∙ e); notes = λ e. off e } in
      let new : Fits x d (length vs) a = record { frame_is = f.frame_is; owns = λ e. off e; follows = λ _. (refl, inr (refl, ap (λ l. l ++ items) all)); notes = λ e. off e } in
      let others : (j : ℕ) (u : W) → j ≢ id → Fits x c j u → Fits x d j u = λ j u apart g. record {
        frame_is = g.frame_is;
        owns = λ o. absurd (apart ((g.owns o).0 ∙ sym place));
        follows = λ e. let t = g.follows e in (t.0, inl (whole c j u.list t.1));
        notes = g.notes;
      } in (
        d,
        record {
          each = each_new (Live d) vs a (λ _. new) (each_set (Live d) s.views id w (λ _. mine) (λ j u apart e l. others j u apart (r.each j u e l)));
          frames = All-append (λ e. frame_of e ≡ x) (c.list ++ c.next) items r.frames (All-weaker (λ e. Some (frame_of e) ≡ v.frame) (λ e. frame_of e ≡ x) (λ e m. cc (m ∙ f.frame_is)) items framed);
        },
      )

  pub recalls : (slots id : ℕ) (me : Me S W) → me.0.spent ≡ false → Allows Rule slots id me 0 (λ n. n) (Recalls frame_of (step slots 0 0 0 none) me)
  recalls slots id me live s holds wide at small =
      let c : Setting E = holds.0 in let r = holds.1 in
      let v : W = me.0 in let w : W = recalled v in
      let f = r.each id v at live in
      let mine : Fits x c id w = record { frame_is = f.frame_is; owns = f.owns; follows = f.follows; notes = λ e. off e } in
      let framed : All (λ e. frame_of e ≡ x) (all_of v) = All-prefix (λ e. frame_of e ≡ x) (all_of v) (c.list ++ c.next) (known c id v f) r.frames in
      let told : Told frame_of v = record { beside = f.notes; frames = All-weaker (λ e. frame_of e ≡ x) (λ e. Some (frame_of e) ≡ v.frame) (λ e m. ap Some m ∙ sym f.frame_is) (all_of v) framed } in
      (w, keeps, tt, (c, record { each = each_set (Live c) s.views id w (λ _. mine) (λ j u _ e. r.each j u e); frames = r.frames }), (refl, told))
