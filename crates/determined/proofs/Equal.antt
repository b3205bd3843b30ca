-- From two contracts that hold to what follows of their results. Assumes nothing.
use mathlib.Core.Path.{◌≡◌, sym, ◌∙◌}
use seplogic.Ra.Ura.{Ura}
use base.Logic.{SProp, ent, sep, via, fst∗, snd∗}
use contract.Monad.{conj, conj_l, conj_r, fact, fact_i, fact_use}
use Rattle.determined.specs.Public.{beside}

module _ {M : Type 1} (𝓤 : Ura M) where
  -- two plain facts, and what follows from them
  pub both : {φ ψ χ : Type 0} → (φ → ψ → χ) → ent 𝓤 (conj 𝓤 (fact 𝓤 φ) (fact 𝓤 ψ)) (fact 𝓤 χ)
  both {φ} {ψ} {χ} f =
      fact_use 𝓤 φ (conj_l 𝓤 (fact 𝓤 φ) (fact 𝓤 ψ)) (λ x. fact_use 𝓤 ψ (conj_r 𝓤 (fact 𝓤 φ) (fact 𝓤 ψ)) (λ y. fact_i 𝓤 χ _ (f x y)))

  -- the same where each contract has two clauses, and where what follows stands on the first of each
  pub clauses : {φ ψ χ σ τ : Type 0} → (φ → σ → ψ → τ → χ) → ent 𝓤 (conj 𝓤 (sep 𝓤 (fact 𝓤 φ) (fact 𝓤 σ)) (sep 𝓤 (fact 𝓤 ψ) (fact 𝓤 τ))) (fact 𝓤 χ)
  clauses {φ} {ψ} {χ} {σ} {τ} f =
      let one : SProp 𝓤 = sep 𝓤 (fact 𝓤 φ) (fact 𝓤 σ) in
      let other : SProp 𝓤 = sep 𝓤 (fact 𝓤 ψ) (fact 𝓤 τ) in
      fact_use 𝓤 φ (via 𝓤 one (conj_l 𝓤 one other) (fst∗ 𝓤 (fact 𝓤 φ) (fact 𝓤 σ))) (λ x.
      fact_use 𝓤 σ (via 𝓤 one (conj_l 𝓤 one other) (snd∗ 𝓤 (fact 𝓤 φ) (fact 𝓤 σ))) (λ s.
      fact_use 𝓤 ψ (via 𝓤 other (conj_r 𝓤 one other) (fst∗ 𝓤 (fact 𝓤 ψ) (fact 𝓤 τ))) (λ y.
      fact_use 𝓤 τ (via 𝓤 other (conj_r 𝓤 one other) (snd∗ 𝓤 (fact 𝓤 ψ) (fact 𝓤 τ))) (λ t.
      fact_i 𝓤 χ _ (f x s y t)))))

  pub firsts : {φ ψ χ σ τ : Type 0} → (φ → ψ → χ) → ent 𝓤 (conj 𝓤 (sep 𝓤 (fact 𝓤 φ) (fact 𝓤 σ)) (sep 𝓤 (fact 𝓤 ψ) (fact 𝓤 τ))) (fact 𝓤 χ)
  firsts f = clauses (λ x s y t. f x y)

  -- a contract of one equation; with a second clause; and one of two equations
  pub one_of : {A : Type 0} {x y z : A} → ent 𝓤 (conj 𝓤 (fact 𝓤 (x ≡ z)) (fact 𝓤 (y ≡ z))) (fact 𝓤 (x ≡ y))
  one_of = both (λ p q. p ∙ sym q)

  pub first_of : {A : Type 0} {x y z : A} {σ τ : Type 0} → ent 𝓤 (conj 𝓤 (sep 𝓤 (fact 𝓤 (x ≡ z)) (fact 𝓤 σ)) (sep 𝓤 (fact 𝓤 (y ≡ z)) (fact 𝓤 τ))) (fact 𝓤 (x ≡ y))
  first_of = firsts (λ p q. p ∙ sym q)

  pub two-of : {A B : Type 0} {x y z : A} {u v w : B}
      → ent 𝓤 (conj 𝓤 (fact 𝓤 ((x ≡ z) × (u ≡ w))) (fact 𝓤 ((y ≡ z) × (v ≡ w)))) (fact 𝓤 (beside x u ≡ beside y v))
  two-of = both (λ p q. rw (p.0, q.0, p.1, q.1))
