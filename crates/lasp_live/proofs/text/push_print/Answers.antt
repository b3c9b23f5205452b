use Rattle.std.proofs.Common.{rules, ◌≡◌, ℕ, List, [], ◌∷◌, ◌++◌, codes, string_bytes, sym, ap, ◌∙◌, append_assoc}
use Rattle.std.specs.Fmt.{decimal}
use Rattle.std.specs.Prelude.{Some, slice_get}
use Rattle.std.proofs.lemmas.Option.{get_or_from_slice_get}
use Rattle.std.proofs.lemmas.Result.{on_ok_weaker}
use Rattle.model_graph.specs.Graph.{Decl, name_at, no_decl}
use Rattle.lasp_graph.specs.Decl.{decl_of}
use Rattle.lasp_state.specs.State.{shown_state}
use Rattle.lasp_live.proofs.text.push_print.Goals as goal

-- what is pushed behind what was pushed
pushed-on : (old new last add rest : List ℕ) → new ≡ old ++ add → last ≡ new ++ rest → last ≡ old ++ (add ++ rest)
pushed-on old new last add rest first second = second ∙ ap (λ (l : List ℕ). l ++ rest) first ∙ append_assoc old add rest

pub returns : goal.returns
returns c =
    let begun = string_bytes c.args.text.now in
    let numbered = string_bytes c.push_str.new.self in
    let worded = string_bytes c.push_word.new.text in
    let placed = string_bytes c.push_word-2.new.text in
    let last = string_bytes c.push_shown.new.text in
    let shown : List ℕ = 32 ∷ (shown_state c.args.state.now ++ 10 ∷ []) in
    let name : List ℕ = name_at c.args.graph.now c.args.x in
    let first : numbered ≡ begun ++ decimal c.args.p = search rules in
    let second : worded ≡ numbered ++ 32 ∷ codes "print" = search rules in
    let third : placed ≡ worded ++ 32 ∷ decimal c.args.place = search rules in
    let at : slice_get c.args.graph.now c.args.x ≡ Some (decl_of c.at.result.now) = search rules in
    let named : c.as_str.result.now ≡ name = c.as_str.ensures.exact ∙ ap (λ (d : Decl). d.name) (sym (get_or_from_slice_get c.args.graph.now c.args.x (decl_of c.at.result.now) no_decl at)) in
    on_ok_weaker c.push_shown.result
    (λ pushed. pushed-on begun numbered last (decimal c.args.p) ((32 ∷ codes "print") ++ ((32 ∷ decimal c.args.place) ++ 32 ∷ (name ++ shown))) first
    (pushed-on numbered worded last (32 ∷ codes "print") ((32 ∷ decimal c.args.place) ++ 32 ∷ (name ++ shown)) second
    (pushed-on worded placed last (32 ∷ decimal c.args.place) (32 ∷ (name ++ shown)) third (pushed ∙ ap (λ (n : List ℕ). placed ++ 32 ∷ (n ++ shown)) named))))
    c.push_shown.ensures
