-- Which messages stand for others.
use Rattle.std.proofs.Common.{◌≡◌, List, refl, sym, subst}
use Rattle.model_states.specs.Content.{Content}
use Rattle.model_graph.specs.Graph.{Decl}
use Rattle.model_graph.specs.Message.{Message}
use Rattle.model_runs.specs.Part.{BringsAsMuch}

-- a message that is the same brings as much
pub brings-equal : {g : List Decl} {contents : List Content} {m part : Message} → part ≡ m → BringsAsMuch g contents m part
brings-equal {g} {contents} {m} {part} same = subst (BringsAsMuch g contents m) (sym same) (record { wide = refl; begins = λ b. b; brings = λ x low source. refl })
