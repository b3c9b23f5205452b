use Rattle.std.proofs.Common.{◌≡◌, ◌∙◌, ℕ, List, Result, Ok, sym, ap, subst, arith}
use Rattle.std.proofs.lemmas.Result.{err_from_is_err_and}
use Rattle.model_graph.specs.Message.{Message}
use Rattle.model_wire.specs.declared.wire_why.WireWhy.{WireWhy}
use Rattle.model_wire.specs.Lawful.{IsBytes}
use Rattle.model_deltas.specs.Delta.{Delta}
use Rattle.model_deltas.specs.Before.{IsDelta}
use Rattle.model_deltas.specs.Spelling.{spelled_delta}
use Rattle.model_deltas.specs.Reader.{decoded_delta}
use Rattle.model_deltas.proofs.CodecLaws.{decoded_known, known_decoded}
use Rattle.model_deltas.proofs.JoinedLaws.{carried-message}
use Rattle.model_deltas.proofs.StuckLaws.{told_stuck, stuck_refused}
use Rattle.lasp_wire.specs.declared.refused.WireRefused.{WireRefused}
use Rattle.lasp_wire.specs.declared.refused.WireRefused.TheVariants as refused
use Rattle.lasp_wire.specs.Decoded.{Refuses}
use Rattle.lasp_delta.specs.Delta.{going_on}
use Rattle.lasp_delta.specs.Decoded.{parts_of, IsStuckAs}
use Rattle.lasp_delta.proofs.decoder.decode_delta.Goals as goal

-- what is spelled so is read
is_read : (bytes : List ℕ) (d : Delta) → IsDelta d → bytes ≡ spelled_delta d → decoded_delta bytes ≡ Ok d
is_read bytes d has spelled = ap decoded_delta spelled ∙ known_decoded d has

stuck_as : (bytes : List ℕ) (e : WireRefused) → IsBytes bytes → Refuses e (decoded_delta bytes) → IsStuckAs e bytes
stuck_as bytes (refused.At place why) fits h = told_stuck bytes place why fits h
stuck_as bytes refused.Memory fits h = tt

pub returns-in_err-parts-clause-stuck : goal.returns-in_err-parts-clause-stuck
returns-in_err-parts-clause-stuck c =
    let p = err_from_is_err_and c.from_residual.result c.from_residual.ensures.1 in
    rw (p.1, p.2) (stuck_as c.args.bytes.now c.in_err-parts.field-0.0 (λ i. omega (arith, c.type_inv.bytes i)) c.in_err-parts.ensures)

pub returns-in_err-parts-clause-refused : goal.returns-in_err-parts-clause-refused
returns-in_err-parts-clause-refused c = λ place why stuck.
    let p = err_from_is_err_and c.from_residual.result c.from_residual.ensures.1 in
    rw (p.1, p.2) (subst (λ (r : Result Delta (ℕ × WireWhy)). Refuses c.in_err-parts.field-0.0 r) (stuck_refused c.args.bytes.now place why stuck) c.in_err-parts.ensures)

pub returns-in_err-parts-clause-only : goal.returns-in_err-parts-clause-only
returns-in_err-parts-clause-only c = λ d has spelled.
    let p = err_from_is_err_and c.from_residual.result c.from_residual.ensures.1 in
    rw (p.1, p.2) (subst (λ (r : Result Delta (ℕ × WireWhy)). Refuses c.in_err-parts.field-0.0 r) (is_read c.args.bytes.now d has spelled) c.in_err-parts.ensures)

pub with_counts-carried-requires : goal.with_counts-carried-requires
with_counts-carried-requires c =
    carried-message (parts_of c.in_ok-parts.parts) (decoded_known c.args.bytes.now (parts_of c.in_ok-parts.parts) (λ i. omega (arith, c.type_inv.bytes i)) c.in_ok-parts.ensures).0

pub of-requires : goal.of-requires
of-requires c =
    subst (λ (m : Message). IsDelta (going_on c.in_ok-parts.parts.from m)) (sym c.with_counts-carried.ensures)
    (decoded_known c.args.bytes.now (parts_of c.in_ok-parts.parts) (λ i. omega (arith, c.type_inv.bytes i)) c.in_ok-parts.ensures).0

pub returns-clause-read : goal.returns-clause-read
returns-clause-read c =
    let made : c.of.result ≡ parts_of c.in_ok-parts.parts = c.of.ensures ∙ ap (λ (m : Message). going_on c.in_ok-parts.parts.from m) c.with_counts-carried.ensures in
    subst (λ (d : Delta). IsDelta d × (c.args.bytes.now ≡ spelled_delta d)) (sym made) (decoded_known c.args.bytes.now (parts_of c.in_ok-parts.parts) (λ i. omega (arith, c.type_inv.bytes i)) c.in_ok-parts.ensures)

pub returns-clause-only : goal.returns-clause-only
returns-clause-only c = λ d has spelled.
    let made : c.of.result ≡ parts_of c.in_ok-parts.parts = c.of.ensures ∙ ap (λ (m : Message). going_on c.in_ok-parts.parts.from m) c.with_counts-carried.ensures in
    sym (is_read c.args.bytes.now d has spelled) ∙ c.in_ok-parts.ensures ∙ ap (λ (e : Delta). Ok e) (sym made)

pub returns-clause-refused : goal.returns-clause-refused
returns-clause-refused c = λ place why stuck.
    let made : c.of.result ≡ parts_of c.in_ok-parts.parts = c.of.ensures ∙ ap (λ (m : Message). going_on c.in_ok-parts.parts.from m) c.with_counts-carried.ensures in
    sym (stuck_refused c.args.bytes.now place why stuck) ∙ c.in_ok-parts.ensures ∙ ap (λ (e : Delta). Ok e) (sym made)
