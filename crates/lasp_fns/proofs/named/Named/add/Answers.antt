use Rattle.std.proofs.Common.{◌≡◌, ◌∙◌, ◌++◌, ◌∷◌, [], sym, ap, refl, arith}
use Rattle.lasp_fns.proofs.Added.{few-after, memory-taken, not-both}
use Rattle.lasp_fns.proofs.Names.{with_bytes, length-with_bytes, lookup-named, insert-named}
use Rattle.lasp_fns.specs.Named.{is_named}
use Rattle.lasp_fns.proofs.named.Named.add.Goals as goal

pub returns-then-contains_key-clause-taken : goal.returns-then-contains_key-clause-taken
returns-then-contains_key-clause-taken g c = (λ e. (sym c.is_shape.ensures ∙ c.if-not-is_shape.false, sym (lookup-named c.args.name.now c.args.self.now.entries.entries) ∙ sym c.contains_key.ensures ∙ c.if-contains_key.true), λ h. refl)

pub returns-in_err-key-clause-taken : goal.returns-in_err-key-clause-taken
returns-in_err-key-clause-taken g c = (
  λ e. absurd (memory-taken c.from_residual.result c.from_residual.ensures.1 e),
  λ h. absurd (not-both _ _ (sym (lookup-named c.args.name.now c.args.self.now.entries.entries)) (sym c.contains_key.ensures ∙ c.if-contains_key.false) h.1),
)

pub invariant_of-self : goal.invariant_of-self
invariant_of-self g c = record { few = few-after c.args.self.now.entries.entries c.insert.new.self.entries c.insert.result 4294967295 c.insert.ensures.len c.insert.ensures.err (omega (arith, c.requires.room, length-with_bytes c.args.self.now.entries.entries)) }

pub returns-in_err-insert-clause-taken : goal.returns-in_err-insert-clause-taken
returns-in_err-insert-clause-taken g c = (
  λ e. absurd (memory-taken c.from_residual-in_err-insert.result c.from_residual-in_err-insert.ensures.1 e),
  λ h. absurd (not-both _ _ (sym (lookup-named c.args.name.now c.args.self.now.entries.entries)) (sym c.contains_key.ensures ∙ c.if-contains_key.false) h.1),
)

pub returns-clause-taken : goal.returns-clause-taken
returns-clause-taken g c = (
  λ e. cc,
  λ h. absurd (not-both _ _ (sym (lookup-named c.args.name.now c.args.self.now.entries.entries)) (sym c.contains_key.ensures ∙ c.if-contains_key.false) h.1),
)

pub returns-clause-ok : goal.returns-clause-ok
returns-clause-ok g c =
    let es = c.args.self.now.entries.entries in
    ap with_bytes c.in_ok-insert.ensures.entries
    ∙ insert-named c.in_ok-key.key c.args.f es (ap (λ n. is_named n (with_bytes es)) c.in_ok-key.ensures.ok ∙ sym (lookup-named c.args.name.now es) ∙ sym c.contains_key.ensures ∙ c.if-contains_key.false)
    ∙ (λ i. with_bytes es ++ (c.in_ok-key.ensures.ok i, c.args.f) ∷ [])
