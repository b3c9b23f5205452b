use Rattle.std.proofs.Common.{◌≡◌, ℕ, Bool, List, ◌++◌, [], false, All, length, refl, sym, ap, subst, subst₂, ◌∙◌, arith, length-append}
use Rattle.std.proofs.lemmas.List.Elements.{All-append, All-weaker}
use Rattle.lasp_histlock.specs.History.{Allowed, Made, added, entries_of}
use Rattle.atomic_table.specs.Seated.{TableId}
use Rattle.lasp_histlock.specs.Rule.{Mine}
use Rattle.lasp_histlock.specs.Passes.{IsPass}
use Rattle.lasp_histlock.specs.Taken.{settled}
use Rattle.lasp_histlock.specs.Views.{grown}
use Rattle.lasp_histlock.proofs.Prefixes.{entries_of-append, entries_of-all}
use Rattle.lasp_histlock.proofs.Seats.{off}
use Rattle.lasp_histlock.proofs.lock.HistLock.give.Goals as goal

-- the entries that n may make are of n
made_by : (E : Type 0) (names : E → ℕ) (may : ℕ → E → Type 0) → ((n : ℕ) (e : E) → may n e → names e ≡ n) → (n : ℕ) (es : List E) → All (may n) es → Made names may n es
made_by E names may named n es h = All-weaker (may n) (λ e. (names e ≡ n) × may n e) (λ e m. (named n e m, m)) es h

-- what the pass is made of, after the entries es
given : (E F : Type 0) (names : E → ℕ) (may : ℕ → E → Type 0) (table : TableId) (me : Mine E F) (number made entries count : ℕ) (turn : Bool) (es : List E)
    → IsPass names may table me number made entries turn → Made names may me.0.number es → count ≡ length (me.0.seen ++ es)
    → IsPass names may table (settled (grown es me.0), []) number made count false
given E F names may table me number made entries count turn es p entries_made counted =
    let v = me.0 in
    let named : All (λ e. names e ≡ v.number) es = All-weaker (λ e. (names e ≡ v.number) × may v.number e) (λ e. names e ≡ v.number) (λ _ m. m.0) es entries_made in
    let allowed : All (Allowed names may) es = All-weaker (λ e. (names e ≡ v.number) × may v.number e) (Allowed names may) (λ e m. subst (λ n. may n e) (sym m.0) m.1) es entries_made in record {
      ready = p.ready;
      pass = p.pass;
      empty = refl;
      lock = p.lock;
      carries = λ e. off e;
      out = refl;
      lifted = refl;
      own = ap (λ l. l ++ es) p.own ∙ sym (entries_of-append names v.number v.seen es ∙ ap (λ l. entries_of names v.number v.seen ++ l) (entries_of-all names v.number es named));
      allowed = All-append (Allowed names may) v.seen es p.allowed allowed;
      number_is = p.number_is;
      made_is = p.made_is;
      entries_is = counted;
      turn_is = refl;
    }

pub finish-requires-clause-entries : goal.finish-requires-clause-entries
finish-requires-clause-entries g c =
    let list = g.T.Kept.list c.args.held.value in
    let v = c.p.inside.seat.me.0 in
    let new = added v.seen list in
    let may : All (g.T.Kept.may v.number) new = subst (λ p. All (g.T.Kept.may p.number) (added p.seen list)) (sym c.p.view_is) c.requires.entries in
    let whole : list ≡ v.seen ++ new = subst (λ p. list ≡ p.seen ++ added p.seen list) (sym c.p.view_is) c.requires.list in (
      made_by _ g.T.Kept.names g.T.Kept.may g.met.T.Kept.named v.number new may,
      omega (arith, c.entries-entries.ensures.count, c.p.invariant.entries_is, ap length whole ∙ length-append v.seen new),
    )

pub invariant_of-p : goal.invariant_of-p
invariant_of-p g c =
    let names = g.T.Kept.names in let may = g.T.Kept.may in
    let list = g.T.Kept.list c.args.held.value in
    let me = c.p.inside.seat.me in
    let new = added me.0.seen list in
    let whole : list ≡ me.0.seen ++ new = subst (λ p. list ≡ p.seen ++ added p.seen list) (sym c.p.view_is) c.requires.list in
    let allowed : All (may me.0.number) new = subst (λ p. All (may p.number) (added p.seen list)) (sym c.p.view_is) c.requires.entries in
    let made = made_by _ names may g.met.T.Kept.named me.0.number new allowed in
    let done = given _ _ names may _ me _ _ _ _ _ new c.p.invariant made (c.entries-entries.ensures.count ∙ ap length whole) in
    subst₂ (λ table m. IsPass names may table m c.p.inside.number c.p.inside.made c.entries-entries.result false) (sym c.finish.ensures.0) (sym c.finish.ensures.1) done
