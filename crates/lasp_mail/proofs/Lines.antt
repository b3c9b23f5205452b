-- Each move of the queue keeps its parcels in the order of their numbers.
use Rattle.std.proofs.Common.{◌≡◌, ◌≢◌, ℕ, suc, ◌+◌, true, false, List, [], ◌∷◌, ◌++◌, length, set, refl, ap, sym, subst, ◌∙◌, length-append, arith}
use Rattle.crossbeam_queue.specs.Fifo.{Pushes, Pops, Forks}
use Rattle.atomic_table.specs.Seated.{TableId}
use Rattle.lasp_mail.specs.declared.item.Item.{Item}
use Rattle.lasp_mail.specs.declared.line.Line.{Line}
use Rattle.lasp_mail.specs.Parcel.{ParcelView}
use Rattle.lasp_mail.specs.Line.{Fits, Numbered, InOrder, Puts, Takes, both_ends, sending, taking, counted, no_table}
use Rattle.lasp_mail.proofs.Prefixes.{empty_is}
use Rattle.lasp_mail.proofs.Seats.{off, each_one, each_set, each_new}

module _ (T F : Type 0) where
  abbrev Parcel : Type 0
  Parcel = ParcelView (Item T) F

  numbered_more : (table : TableId) (n : ℕ) (xs : List Parcel) (x : Parcel) → Numbered table n xs → x.item.number ≡ n + length xs → x.table ≡ table → Numbered table n (xs ++ x ∷ [])
  numbered_more table n [] x h number place = (omega (arith, number), place, tt)
  numbered_more table n (y ∷ ys) x h number place = (h.0, h.1, numbered_more table (suc n) ys x h.2 (omega (arith, number)) place)

  pub begins : InOrder {T = T} {F = F} [] (both_ends ∷ [])
  begins =
      let mine : Fits 0 0 0 0 no_table 0 both_ends = record { sends = λ _. (refl, refl, refl); takes = λ _. (refl, refl, refl) } in
      record { from = 0; to = 0; low = 0; table = no_table; numbered = tt; each = each_one (Fits 0 0 0 0 no_table) both_ends mine }

  pub forks : (table : TableId) (pass : ℕ) (v : Line) → v ≡ both_ends → Forks (InOrder {T = T} {F = F}) pass v (sending table 0) (taking table 0)
  forks table pass v is parcels views h at =
      let f = h.each pass v at in
      let sends = f.sends (ap (λ z. z.sends) is) in let takes = f.takes (ap (λ z. z.takes) is) in
      let none_in : length parcels ≡ 0 = omega (arith, sends.1, takes.1) in
      let vs : List Line = set views pass (sending table 0) in
      let Fit : ℕ → Line → Type 0 = Fits pass (length vs) 0 (0 + length parcels) table in
      let mine : Fit pass (sending table 0) = record { sends = λ _. (refl, omega (arith, none_in), refl); takes = λ e. off e } in
      let new : Fit (length vs) (taking table 0) = record { sends = λ e. off e; takes = λ _. (refl, refl, refl) } in
      let others : (j : ℕ) (u : Line) → j ≢ pass → Fits h.from h.to h.low (h.low + length parcels) h.table j u → Fit j u = λ j u apart g. record {
        sends = λ e. absurd (apart ((g.sends e).0 ∙ sym sends.0));
        takes = λ e. absurd (apart ((g.takes e).0 ∙ sym takes.0));
      } in
      record {
        from = pass;
        to = length vs;
        low = 0;
        table = table;
        numbered = subst (Numbered table 0) (sym (empty_is parcels none_in)) tt;
        each = each_new Fit vs (taking table 0) new (each_set Fit views pass (sending table 0) mine (λ j u apart e. others j u apart (h.each j u e)));
      }

  pub puts : (n pass : ℕ) (v : Line) (x : Parcel) → v.sends ≡ true → v.takes ≡ false → x.item.number ≡ v.count → x.table ≡ v.place.table → Pushes (InOrder {T = T} {F = F}) n pass v x (Puts v x)
  puts n pass v x may no_takes number place parcels views room h at =
      let w : Line = counted v in
      let mine = (h.each pass v at).sends may in
      let grown : h.low + length (parcels ++ x ∷ []) ≡ suc (h.low + length parcels) = omega (arith, length-append parcels (x ∷ [])) in
      let Fit : ℕ → Line → Type 0 = Fits h.from h.to h.low (h.low + length (parcels ++ x ∷ [])) h.table in
      let fits : Fit pass w = record { sends = λ _. (mine.0, ap suc mine.1 ∙ sym grown, mine.2); takes = λ e. off (sym no_takes ∙ e) } in
      let others : (j : ℕ) (u : Line) → j ≢ pass → Fits h.from h.to h.low (h.low + length parcels) h.table j u → Fit j u = λ j u apart g. record {
        sends = λ e. absurd (apart ((g.sends e).0 ∙ sym mine.0));
        takes = g.takes;
      } in (
        w,
        record {
          from = h.from;
          to = h.to;
          low = h.low;
          table = h.table;
          numbered = numbered_more h.table h.low parcels x h.numbered (number ∙ mine.1) (place ∙ mine.2);
          each = each_set Fit views pass w fits (λ j u apart e. others j u apart (h.each j u e));
        },
        refl,
      )

  pub takes : (pass : ℕ) (v : Line) → v.takes ≡ true → v.sends ≡ false → Pops (InOrder {T = T} {F = F}) pass v (Takes v)
  takes pass v may no_sends x parcels views h at =
      let w : Line = counted v in
      let mine = (h.each pass v at).takes may in
      let Fit : ℕ → Line → Type 0 = Fits h.from h.to (suc h.low) (suc h.low + length parcels) h.table in
      let fits : Fit pass w = record { sends = λ e. off (sym no_sends ∙ e); takes = λ _. (mine.0, ap suc mine.1, mine.2) } in
      let others : (j : ℕ) (u : Line) → j ≢ pass → Fits h.from h.to h.low (h.low + length (x ∷ parcels)) h.table j u → Fit j u = λ j u apart g. record {
        sends = λ e. let t = g.sends e in (t.0, omega (arith, t.1), t.2);
        takes = λ e. absurd (apart ((g.takes e).0 ∙ sym mine.0));
      } in (
        w,
        record {
          from = h.from;
          to = h.to;
          low = suc h.low;
          table = h.table;
          numbered = h.numbered.2;
          each = each_set Fit views pass w fits (λ j u apart e. others j u apart (h.each j u e));
        },
        (refl, h.numbered.0 ∙ sym mine.1, h.numbered.1 ∙ sym mine.2),
      )
