use Rattle.std.proofs.Common.{ℕ, drop, ◌∙◌, arith}
use Rattle.std.proofs.lemmas.Result.{err_from_is_err_and}
use Rattle.model_deltas.specs.Delta.{Delta}
use Rattle.model_deltas.specs.Reader.{delta_body_at, delta_version_at}
use Rattle.lasp_delta.specs.Decoded.{parts_of}
use Rattle.lasp_delta.proofs.ReadLaws.{refused-all, refused-rest, decoded-all, version-err, version-ok}
use Rattle.lasp_delta.proofs.decoder.parts_in.Goals as goal

pub returns-in_err-version_in : goal.returns-in_err-version_in
returns-in_err-version_in c =
    let p = err_from_is_err_and c.from_residual.result c.from_residual.ensures.1 in
    rw (p.1, p.2) (refused-all ℕ c.args.bytes.now c.in_err-version_in.field-0.0 (delta_version_at c.args.bytes.now) (version-err c.args.bytes.now) c.in_err-version_in.ensures)

pub returns-in_err-parts : goal.returns-in_err-parts
returns-in_err-parts c =
    let p = err_from_is_err_and c.from_residual-in_err-parts.result c.from_residual-in_err-parts.ensures.1 in
    rw (p.1, p.2) (refused-all Delta c.args.bytes.now c.in_err-parts.field-0.0 (delta_body_at (drop 5 c.args.bytes.now))
    (λ f e. version-ok c.args.bytes.now 1 (drop 5 c.args.bytes.now) c.in_ok-version_in.ensures.0 ∙ e) c.in_err-parts.ensures)

pub returns-then-behind-bytes : goal.returns-then-behind-bytes
returns-then-behind-bytes c =
    refused-rest c.args.bytes.now (parts_of c.in_ok-parts.parts) c.in_ok-parts.behind (version-ok c.args.bytes.now 1 (drop 5 c.args.bytes.now) c.in_ok-version_in.ensures.0 ∙ c.in_ok-parts.ensures.0) (omega (arith, c.if-behind-bytes.true))

pub returns : goal.returns
returns c =
    decoded-all c.args.bytes.now (parts_of c.in_ok-parts.parts) c.in_ok-parts.behind (version-ok c.args.bytes.now 1 (drop 5 c.args.bytes.now) c.in_ok-version_in.ensures.0 ∙ c.in_ok-parts.ensures.0) (omega (arith, c.if-behind-bytes.false))
