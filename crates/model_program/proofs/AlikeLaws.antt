-- What all nodes have at the places of a script's run.
use Rattle.std.proofs.Common.{refl, sym, ap, subst, ◌∙◌}
use Rattle.std.specs.Prelude.{◌≡◌, ◌<◌, ◌++◌, ◌∷◌, [], ℕ, List}
use Rattle.model_graph.specs.Graph.{Decl}
use Rattle.model_world.specs.Command.{Command, Script}
use Rattle.model_world.specs.World.{peer_at}
use Rattle.model_world.specs.Follow.{Followed}
use Rattle.model_world.specs.Holds.{IsPlaceOf}
use Rattle.model_world.proofs.AlikeLaws.{equal-shown, equal-printed}
use Rattle.model_world.proofs.KnownLaws.{replica-contents}
use Rattle.model_world.proofs.PlaceLaws.{equal-counts}
use Rattle.model_deltas.proofs.TellLaws.{delta-world}
use Rattle.model_program.specs.Places.{AreKnown, IsAlike, AreAlike, DeltasStand}

pub known-places : (g : List Decl) (script : Script) → AreKnown g script
known-places g script f at p member = replica-contents g script.nodes at.done f at.place p member

pub deltas-stand : (g : List Decl) (script : Script) → DeltasStand g script
deltas-stand g script f at before after m told =
    delta-world before after m (record { graph = g; nodes = script.nodes; commands = at.done; at = f; place = at.place; earlier = told.earlier; later = told.later; third = told.third }) told.in_order

-- the first of two beginnings of a list begins the second, or the second the first
data AreBeginnings (a c : List Command) : Type 0 where
  first : (more : List Command) → a ++ more ≡ c → AreBeginnings a c
  second : (more : List Command) → c ++ more ≡ a → AreBeginnings a c

beginnings : (a b c d : List Command) → a ++ b ≡ c ++ d → AreBeginnings a c
beginnings [] b c d e = first c refl
beginnings (k ∷ a) b [] d e = second (k ∷ a) refl
beginnings (k ∷ a) b (l ∷ c) d e =
    step k l a c (let same : k ≡ l = cc in same) (beginnings a b c d (let rest : a ++ b ≡ c ++ d = cc in rest)) where
      step : (k l : Command) (a c : List Command) → k ≡ l → AreBeginnings a c → AreBeginnings (k ∷ a) (l ∷ c)
      step k l a c same (first more is) = first more (ap (λ (h : Command). h ∷ (a ++ more)) same ∙ ap (λ (t : List Command). l ∷ t) is)
      step k l a c same (second more is) = second more (ap (λ (h : Command). h ∷ (c ++ more)) (sym same) ∙ ap (λ (t : List Command). k ∷ t) is)

alike-later : (g : List Decl) (nodes : ℕ) (commands more : List Command) (f last : Followed) → IsPlaceOf g nodes commands f → IsPlaceOf g nodes (commands ++ more) last
    → f.run.graph ≡ last.run.graph → (p q : ℕ) → p < nodes → q < nodes → (peer_at f.run.peers p).counts ≡ (peer_at last.run.peers q).counts → IsAlike f last p q
alike-later g nodes commands more f last at there same p q member other e = record {
  sources = equal-counts g nodes commands more f last at there same p q member other e;
  shown = equal-shown g nodes commands more f last at there same p q member other e;
  printed = equal-printed g nodes commands more f last at there same p q member other e;
}

alike-back : (f last : Followed) (p q : ℕ) → IsAlike last f q p → IsAlike f last p q
alike-back f last p q h = record { sources = sym h.sources; shown = sym h.shown; printed = λ x. sym (h.printed x) }

pub alike-places : (g : List Decl) (script : Script) → AreAlike g script
alike-places g script f last at there same p q member other e = choose (beginnings at.done at.rest there.done there.rest (at.all ∙ sym there.all)) where
  choose : AreBeginnings at.done there.done → IsAlike f last p q
  choose (first more is) =
      alike-later g script.nodes at.done more f last at.place (subst (λ (commands : List Command). IsPlaceOf g script.nodes commands last) (sym is) there.place) same p q member other e
  choose (second more is) =
      alike-back f last p q (alike-later g script.nodes there.done more last f there.place (subst (λ (commands : List Command). IsPlaceOf g script.nodes commands f) (sym is) at.place) (sym same) q p other member (sym e))
