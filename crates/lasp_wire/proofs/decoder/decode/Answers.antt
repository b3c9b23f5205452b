use Rattle.std.proofs.Common.{◌≡◌, ◌∙◌, ℕ, List, Result, Ok, Err, map, sym, ap, subst, arith}
use Rattle.std.proofs.lemmas.Result.{err_from_is_err_and}
use Rattle.model_graph.specs.Message as plain
use Rattle.model_wire.specs.declared.wire_why.WireWhy.{WireWhy}
use Rattle.model_wire.specs.Message.{decoded}
use Rattle.model_wire.specs.Lawful.{IsBytes, IsMessage, IsSpelledSo}
use Rattle.model_wire.proofs.MessageLaws.{decoded_known, known_decoded}
use Rattle.model_wire.proofs.SourceFails.{told_stuck, stuck_refused}
use Rattle.lasp_wire.specs.declared.refused.WireRefused.{WireRefused}
use Rattle.lasp_wire.specs.declared.refused.WireRefused.TheVariants as refused
use Rattle.lasp_wire.specs.Decoded.{Refuses, IsStuckAs, parts_of}
use Rattle.lasp_wire.specs.Sent.{message, sent_of}
use Rattle.lasp_wire.proofs.decoder.decode.Goals as goal

-- what is spelled so is read
is_read : (bytes : List ℕ) (m : plain.Message) → IsMessage m → IsSpelledSo m bytes → decoded bytes ≡ Ok m
is_read bytes m has spelled = ap decoded spelled.bytes_are ∙ known_decoded spelled.version m spelled.known has

stuck_as : (bytes : List ℕ) (e : WireRefused) → IsBytes bytes → Refuses e (decoded bytes) → IsStuckAs e bytes
stuck_as bytes (refused.At place why) fits h = told_stuck bytes place why fits h
stuck_as bytes refused.Memory fits h = tt

pub returns-in_err-parts-clause-stuck : goal.returns-in_err-parts-clause-stuck
returns-in_err-parts-clause-stuck c =
    let p = err_from_is_err_and c.from_residual.result c.from_residual.ensures.1 in
    rw (p.1, p.2) (stuck_as c.args.bytes.now c.in_err-parts.field-0.0 (λ i. omega (arith, c.type_inv.bytes i)) c.in_err-parts.ensures)

pub returns-in_err-parts-clause-refused : goal.returns-in_err-parts-clause-refused
returns-in_err-parts-clause-refused c = λ place why stuck.
    let p = err_from_is_err_and c.from_residual.result c.from_residual.ensures.1 in
    rw (p.1, p.2) (subst (λ (r : Result plain.Message (ℕ × WireWhy)). Refuses c.in_err-parts.field-0.0 r) (stuck_refused c.args.bytes.now place why stuck) c.in_err-parts.ensures)

pub returns-in_err-parts-clause-only : goal.returns-in_err-parts-clause-only
returns-in_err-parts-clause-only c = λ m has spelled.
    let p = err_from_is_err_and c.from_residual.result c.from_residual.ensures.1 in
    rw (p.1, p.2) (subst (λ (r : Result plain.Message (ℕ × WireWhy)). Refuses c.in_err-parts.field-0.0 r) (is_read c.args.bytes.now m has spelled) c.in_err-parts.ensures)

pub of-requires : goal.of-requires
of-requires c = rw c.of-counts.ensures (decoded_known c.args.bytes.now (parts_of c.in_ok-parts.parts) (λ i. omega (arith, c.type_inv.bytes i)) c.in_ok-parts.ensures).0

pub returns-clause-read : goal.returns-clause-read
returns-clause-read c = rw (c.of.ensures, c.of-counts.ensures) (decoded_known c.args.bytes.now (parts_of c.in_ok-parts.parts) (λ i. omega (arith, c.type_inv.bytes i)) c.in_ok-parts.ensures)

pub returns-clause-only : goal.returns-clause-only
returns-clause-only c = λ m has spelled.
    let made : c.of.result ≡ parts_of c.in_ok-parts.parts = c.of.ensures ∙ ap (λ (counts : List ℕ). message counts (map sent_of c.in_ok-parts.parts.sources.items)) c.of-counts.ensures in
    sym (is_read c.args.bytes.now m has spelled) ∙ c.in_ok-parts.ensures ∙ ap (λ (n : plain.Message). Ok n) (sym made)

pub returns-clause-refused : goal.returns-clause-refused
returns-clause-refused c = λ place why stuck.
    let made : c.of.result ≡ parts_of c.in_ok-parts.parts = c.of.ensures ∙ ap (λ (counts : List ℕ). message counts (map sent_of c.in_ok-parts.parts.sources.items)) c.of-counts.ensures in
    sym (stuck_refused c.args.bytes.now place why stuck) ∙ c.in_ok-parts.ensures ∙ ap (λ (n : plain.Message). Ok n) (sym made)
