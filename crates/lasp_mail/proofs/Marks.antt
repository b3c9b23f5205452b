-- A seat comes to another one: a mark to the outlet or to the inlet, or the inlet's to the outlet's.
use Rattle.std.proofs.Common.{◌≡◌, ◌≢◌, ⊎_elim, ℕ, ◌<◌, ◌≤◌, List, [], ◌++◌, length, set, refl, ap, sym, subst, ◌∙◌, inl, inr, append-nil, length-append, arith}
use mathlib.Core.List.{IsPrefix}
use Rattle.atomic_table.specs.Table.{State, Joins}
use Rattle.atomic_table.proofs.Lists.{set_else}
use Rattle.lasp_mail.specs.declared.witness.Witness.{Witness}
use Rattle.lasp_mail.specs.Witness.{Setting, Follows, Fits, Law, Keeps, IsOwner, IsReader, all_of, withdrawn, gathered, compared, nobody}
use Rattle.lasp_mail.proofs.Prefixes.{prefix_more, prefix_shorter, prefix-length, All-prefix}
use Rattle.lasp_mail.proofs.Seats.{off, on, each_joined}
use Rattle.lasp_mail.proofs.Witnesses.{Live, whole, owned}

module _ (S E F : Type 0) (frame_of : E → F) (x : F) where
  abbrev W : Type 0
  W = Witness E F

  abbrev Ledger : Type 0
  Ledger = State S W

  abbrev Rule : Ledger → Type 0
  Rule = Keeps frame_of x

  abbrev Lives : Setting E → ℕ → W → Type 0
  Lives = Live S E F frame_of x

  abbrev joined : Ledger → ℕ → ℕ → W → Ledger
  joined s id other b = record { words = s.words; homes = s.homes; views = set (set s.views id b) other nobody }

  pub withdraws : (id : ℕ) (v : W) (other : ℕ) (w : W) → IsOwner v → 0 < length v.next → IsReader w → w.list ≡ all_of v → Joins Rule id v other w (withdrawn v) nobody
  withdraws id v other w owner some_next reader list s holds at apart there =
      let c : Setting E = holds.0 in let r = holds.1 in
      let b : W = withdrawn v in
      let f = r.each id v at owner.0 in
      let g = r.each other w (sym (set_else s.views id other b apart) ∙ there) reader.0 in
      let owns = f.owns owner.1 in
      let is_mark : other ≡ c.mark = ⊎_elim
      (λ (p : IsPrefix w.list c.list). absurd (omega (arith, prefix-length w.list c.list p, ap length list ∙ length-append v.list v.next, ap length owns.1, some_next)))
      (λ (t : (other ≡ c.mark) × (w.list ≡ c.list ++ c.next)). t.0)
      (g.follows reader.1).1 in
      let d : Setting E = record c { next = [] } in
      let mine : Fits x d id b = record { frame_is = f.frame_is; owns = λ _. (owns.0, owns.1, refl); follows = λ e. on (sym owner.1 ∙ e); notes = λ e. off e } in
      let others : (j : ℕ) (u : W) → j ≢ id → j ≢ other → Fits x c j u → Fits x d j u = λ j u not_me not_it h. record {
        frame_is = h.frame_is;
        owns = λ o. absurd (not_me ((h.owns o).0 ∙ sym owns.0));
        follows = λ e. let t = h.follows e in (t.0, ⊎_elim (λ (p : IsPrefix u.list c.list). inl p) (λ (m : (j ≡ c.mark) × (u.list ≡ c.list ++ c.next)). absurd (not_it (m.0 ∙ sym is_mark))) t.1);
        notes = h.notes;
      } in (
        d,
        record {
          each = each_joined (Lives d) s.views id other b nobody (λ _. mine) (λ e. on e) (λ j u not_me not_it e l. others j u not_me not_it (r.each j u e l));
          frames = All-prefix (λ e. frame_of e ≡ x) (c.list ++ []) (c.list ++ c.next) (c.next, ap (λ l. l ++ c.next) (append-nil c.list)) r.frames;
        },
      )

  module _ (c : Setting E) (s : Ledger) (r : Law frame_of x c s) (id other : ℕ) (v w : W) (f : Fits x c id v) (g : Fits x c other w) (reader : IsReader v) (bare : v.next ≡ []) (mark : IsReader w)
      (longer : length v.list ≤ length w.list) where
    begins : IsPrefix v.list w.list
    begins = prefix_shorter v.list w.list (c.list ++ c.next) (whole S E F frame_of x c id v.list (f.follows reader.1).1) (whole S E F frame_of x c other w.list (g.follows mark.1).1) longer

    kept : (m : ℕ) → Follows (record c { mark = m }) id w.list → ((j : ℕ) (l : List E) → j ≢ other → Follows c j l → Follows (record c { mark = m }) j l) → Rule (joined s id other (gathered v w))
    kept m follows others =
        let d : Setting E = record c { mark = m } in
        let b : W = gathered v w in
        let mine : Fits x d id b = record { frame_is = f.frame_is; owns = λ e. on (sym e ∙ reader.1); follows = λ _. (bare, follows); notes = λ _. prefix_more v.list w.list v.next begins } in (
          d,
          record {
            each = each_joined (Lives d) s.views id other b nobody (λ _. mine) (λ e. on e) (λ j u _ not_it e l. let h = r.each j u e l in record {
              frame_is = h.frame_is;
              owns = h.owns;
              follows = λ o. let t = h.follows o in (t.0, others j u.list not_it t.1);
              notes = h.notes;
            });
            frames = r.frames;
          },
        )

    held : Rule (joined s id other (gathered v w))
    held = ⊎_elim
        (λ (p : IsPrefix w.list c.list). kept c.mark (inl p) (λ j l _ h. h))
        (λ (t : (other ≡ c.mark) × (w.list ≡ c.list ++ c.next)). kept id (inr (refl, t.1))
        (λ j l not_it h. ⊎_elim (λ (p : IsPrefix l c.list). inl p) (λ (m : (j ≡ c.mark) × (l ≡ c.list ++ c.next)). absurd (not_it (m.0 ∙ sym t.0))) h))
        (g.follows mark.1).1

  pub gathers : (id : ℕ) (v : W) (other : ℕ) (w : W) → IsReader v → v.next ≡ [] → IsReader w → length v.list ≤ length w.list → Joins Rule id v other w (gathered v w) nobody
  gathers id v other w reader bare mark longer s holds at apart there =
      let c : Setting E = holds.0 in let r = holds.1 in
      let g = r.each other w (sym (set_else s.views id other (gathered v w) apart) ∙ there) mark.0 in
      held c s r id other v w (r.each id v at reader.0) g reader bare mark longer

  pub compares : (id : ℕ) (v : W) (other : ℕ) (w : W) → IsOwner v → IsReader w → Joins Rule id v other w (compared v w) nobody
  compares id v other w owner reader s holds at apart there =
      let c : Setting E = holds.0 in let r = holds.1 in
      let b : W = compared v w in
      let f = r.each id v at owner.0 in
      let g = r.each other w (sym (set_else s.views id other b apart) ∙ there) reader.0 in
      let begins : IsPrefix w.list (all_of v) = subst (λ l. IsPrefix w.list l) (sym (owned S E F frame_of x c id v f owner.1)) (whole S E F frame_of x c other w.list (g.follows reader.1).1) in
      let mine : Fits x c id b = record { frame_is = f.frame_is; owns = f.owns; follows = f.follows; notes = λ _. begins } in
      (c, record { each = each_joined (Lives c) s.views id other b nobody (λ _. mine) (λ e. on e) (λ j u _ _ e l. r.each j u e l); frames = r.frames })
