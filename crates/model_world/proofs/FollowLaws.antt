-- A followed run is the run, and goes by what its acts lead to.
use Rattle.std.proofs.Common.{◌≡◌, ℕ, suc, ◌+◌, List, [], ◌∷◌, length, Result, Ok, Err, refl, sym, ap, ◌∙◌, arith}
use Rattle.model_graph.specs.Chain.{◌>>=◌}
use Rattle.model_world.specs.Command.{Command}
use Rattle.model_world.specs.World.{Run, Act, Point, acts, act, each, play}
use Rattle.model_world.specs.declared.stop.Stop.{Stop}
use Rattle.model_world.proofs.StopLaws.{shifted}
use Rattle.model_world.specs.Follow.{Followed, with_run, follow_act, follow_each, follow_step, follow, afters}
use Rattle.model_world.proofs.EffectLaws.{follow-effect}

-- ---- the followed run is the run

pub bind-again : {A B C : Type 0} (r : Result A Stop) (f : A → Result B Stop) (g : B → Result C Stop) → ((r >>= f) >>= g) ≡ (r >>= (λ x. f x >>= g))
bind-again (Ok x) f g = refl
bind-again (Err e) f g = refl

pub bind-alike : {A B E : Type 0} (r : Result A E) (f g : A → Result B E) → ((x : A) → f x ≡ g x) → (r >>= f) ≡ (r >>= g)
bind-alike (Ok x) f g same = same x
bind-alike (Err e) f g same = refl

act-run : (c : ℕ) (f : Followed) (a : Act) (r : Result Run Stop) (then : Run → Result Run Stop) → ((r >>= (λ next. Ok (with_run f a next))) >>= (λ next. then next.run)) ≡ (r >>= then)
act-run c f a (Ok next) then = refl
act-run c f a (Err stop) then = refl

pub each-run : (c : ℕ) (f : Followed) (many : List Act) (then : Run → Result Run Stop) → (follow_each c f many >>= (λ next. then next.run)) ≡ (each c f.run many >>= then)
each-run c f [] then = refl
each-run c f (a ∷ rest) then =
    bind-again (follow_act c f a) (λ next. follow_each c next rest) (λ next. then next.run)
    ∙ bind-alike (follow_act c f a) (λ next. follow_each c next rest >>= (λ last. then last.run)) (λ next. each c next.run rest >>= then) (λ next. each-run c next rest then)
    ∙ act-run c f a (act c f.run a) (λ next. each c next rest >>= then)
    ∙ sym (bind-again (act c f.run a) (λ next. each c next rest) then)

-- the point at the end of the script makes the followed run the run
pub follow-play : (c : ℕ) (f : Followed) (commands : List Command) → (follow c f commands >>= (λ last. act (c + length commands) last.run Point)) ≡ play c f.run commands
unfolding follow play
follow-play c f [] = ap (λ (n : ℕ). act n f.run Point) (let here : c + 0 ≡ c = omega arith in here)
follow-play c f (k ∷ rest) =
    bind-again (follow_step c f k) (λ next. follow (c + 1) next rest) (λ last. act (c + suc (length rest)) last.run Point)
    ∙ bind-alike (follow_step c f k) (λ next. follow (c + 1) next rest >>= (λ last. act (c + suc (length rest)) last.run Point)) (λ next. play (c + 1) next.run rest)
    (λ next. ap (λ (n : ℕ). follow (c + 1) next rest >>= (λ last. act n last.run Point)) (sym (shifted c (length rest))) ∙ follow-play (c + 1) next rest)
    ∙ each-run c f (acts f.run k) (λ next. play (c + 1) next rest)

-- ---- acts one after the other

pub bound : {A B : Type 0} (r : Result A Stop) (f : A → Result B Stop) (y : B) → (r >>= f) ≡ Ok y → (x : A) × (r ≡ Ok x) × (f x ≡ Ok y)
bound (Ok x) f y e = (x, refl, e)
bound (Err stop) f y e = absurd cc

pub each-effect : (c : ℕ) (f next : Followed) (many : List Act) → follow_each c f many ≡ Ok next → next ≡ afters f many
each-effect c f next [] e = cc
each-effect c f next (a ∷ rest) e =
    let both = bound (follow_act c f a) (λ mid. follow_each c mid rest) next e in
    each-effect c both.0 next rest both.2 ∙ ap (λ (mid : Followed). afters mid rest) (follow-effect c f both.0 a both.1)

-- a command that is done leads to the place after its acts
pub step-effect : (c : ℕ) (f next : Followed) (k : Command) → follow_step c f k ≡ Ok next → next ≡ afters f (acts f.run k)
step-effect c f next k e = each-effect c f next (acts f.run k) e
