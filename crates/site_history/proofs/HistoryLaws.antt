-- A history and one step more. `after-push`, `history-push`, `journal_length-push` and `length-push` serve each exit that
-- acknowledges a step; `history-keeps` and `history-counts` carry what each legal step keeps over a history.
use Rattle.std.proofs.Common.{◌≡◌, ℕ, ◌+◌, ◌*◌, ◌≤◌, List, [], ◌∷◌, ◌++◌, length, refl, subst, arith, length-append}
use Rattle.step_codec.specs.Written.{written}
use Rattle.site_history.specs.Terms.{Terms}
use Rattle.site_history.specs.Site.{Site, first_site}
use Rattle.site_history.specs.Steps.{HistoryStep, effect, IsLegal, HasBytes}
use Rattle.site_history.specs.Histories.{after_from, after, IsHistoryFrom, IsHistory, journal_length}

pub after_from-push : (terms : Terms) (site : Site) (steps : List HistoryStep) (made : HistoryStep) → after_from terms site (steps ++ made ∷ []) ≡ effect terms made (after_from terms site steps)
after_from-push terms site [] made = refl
after_from-push terms site (s ∷ steps) made = after_from-push terms (effect terms s site) steps made

-- the site after one step more is that step's effect
pub after-push : (terms : Terms) (steps : List HistoryStep) (made : HistoryStep) → after terms (steps ++ made ∷ []) ≡ effect terms made (after terms steps)
after-push terms steps made = after_from-push terms first_site steps made

pub history_from-push : (terms : Terms) (site : Site) (steps : List HistoryStep) (made : HistoryStep) → IsHistoryFrom terms site steps → IsLegal terms (after_from terms site steps).fields made.step → HasBytes made → IsHistoryFrom terms site (steps ++ made ∷ [])
history_from-push terms site [] made h legal bytes = (legal, bytes, tt)
history_from-push terms site (s ∷ steps) made h legal bytes = (h.0, h.1, history_from-push terms (effect terms s site) steps made h.2 legal bytes)

-- a record takes 5 bytes at least, so that a journal's size bounds the number of steps
pub journal_length-least : (steps : List HistoryStep) → 5 * length steps ≤ journal_length steps
journal_length-least [] = omega arith
journal_length-least (s ∷ steps) = omega (arith, journal_length-least steps)

-- a history and a legal step are a history
pub history-push : (terms : Terms) (steps : List HistoryStep) (made : HistoryStep) → IsHistory terms steps → IsLegal terms (after terms steps).fields made.step → HasBytes made → IsHistory terms (steps ++ made ∷ [])
history-push terms steps made h legal bytes = history_from-push terms first_site steps made h legal bytes

-- its record makes the journal longer by a gate, a length and its written form
pub journal_length-push : (steps : List HistoryStep) (made : HistoryStep) → journal_length (steps ++ made ∷ []) ≡ journal_length steps + (5 + length (written made.step))
journal_length-push [] made = omega arith
journal_length-push (s ∷ steps) made = omega (arith, journal_length-push steps made)

pub length-push : (steps : List HistoryStep) (made : HistoryStep) → length (steps ++ made ∷ []) ≡ length steps + 1
length-push steps made = length-append steps (made ∷ [])

history_from-front : (terms : Terms) (site : Site) (steps : List HistoryStep) (made : HistoryStep) → IsHistoryFrom terms site (steps ++ made ∷ []) → IsHistoryFrom terms site steps × IsLegal terms (after_from terms site steps).fields made.step × HasBytes made
history_from-front terms site [] made h = (tt, h.0, h.1)
history_from-front terms site (s ∷ steps) made h = let rest = history_from-front terms (effect terms s site) steps made h.2 in ((h.0, h.1, rest.0), rest.1, rest.2)

-- a history without its last step is one, and that step is legal behind it
pub history-front : (terms : Terms) (steps : List HistoryStep) (made : HistoryStep) → IsHistory terms (steps ++ made ∷ []) → IsHistory terms steps × IsLegal terms (after terms steps).fields made.step × HasBytes made
history-front terms steps made h = history_from-front terms first_site steps made h

-- what holds of the first site, and of the site after a legal step, holds after a history
history_from-keeps : (terms : Terms) (P : Site → Type 0) → ((site : Site) (made : HistoryStep) → P site → IsLegal terms site.fields made.step → P (effect terms made site))
    → (site : Site) (steps : List HistoryStep) → P site → IsHistoryFrom terms site steps → P (after_from terms site steps)
history_from-keeps terms P step site [] p h = p
history_from-keeps terms P step site (s ∷ steps) p h = history_from-keeps terms P step (effect terms s site) steps (step site s p h.0) h.2

pub history-keeps : (terms : Terms) (P : Site → Type 0) → P first_site → ((site : Site) (made : HistoryStep) → P site → IsLegal terms site.fields made.step → P (effect terms made site))
    → (steps : List HistoryStep) → IsHistory terms steps → P (after terms steps)
history-keeps terms P first step steps h = history_from-keeps terms P step first_site steps first h

-- the same of what counts the steps, and asks for their bytes
pub history_from-counts : (terms : Terms) (P : ℕ → Site → Type 0)
    → ((count : ℕ) (site : Site) (made : HistoryStep) → P count site → IsLegal terms site.fields made.step → HasBytes made → P (count + 1) (effect terms made site))
    → (count : ℕ) (site : Site) (steps : List HistoryStep) → P count site → IsHistoryFrom terms site steps → P (count + length steps) (after_from terms site steps)
history_from-counts terms P step count site [] p h = subst (λ (n : ℕ). P n site) (let e : count ≡ count + 0 = omega arith in e) p
history_from-counts terms P step count site (s ∷ steps) p h =
    subst (λ (n : ℕ). P n (after_from terms (effect terms s site) steps)) (let e : count + 1 + length steps ≡ count + length (s ∷ steps) = omega arith in e)
    (history_from-counts terms P step (count + 1) (effect terms s site) steps (step count site s p h.0 h.1) h.2)

pub history-counts : (terms : Terms) (P : ℕ → Site → Type 0) → P 0 first_site
    → ((count : ℕ) (site : Site) (made : HistoryStep) → P count site → IsLegal terms site.fields made.step → HasBytes made → P (count + 1) (effect terms made site))
    → (steps : List HistoryStep) → IsHistory terms steps → P (length steps) (after terms steps)
history-counts terms P first step steps h =
    subst (λ (n : ℕ). P n (after terms steps)) (let e : 0 + length steps ≡ length steps = omega arith in e) (history_from-counts terms P step 0 first_site steps first h)
