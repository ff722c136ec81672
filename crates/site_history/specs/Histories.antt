-- Histories: lists of steps, each legal in its place.
use Rattle.std.specs.Prelude.{◌≡◌, ℕ, ◌+◌, List, [], ◌∷◌, ◌++◌, length, map}
use Rattle.step_codec.specs.Written.{written}
use Rattle.site_history.specs.Terms.{Terms}
use Rattle.site_history.specs.Site.{Site, first_site}
use Rattle.site_history.specs.Steps.{HistoryStep, effect, IsLegal, HasBytes}

-- the site after some steps
abbrev pub after_from : Terms → Site → List HistoryStep → Site
after_from terms site [] = site
after_from terms site (made ∷ steps) = after_from terms (effect terms made site) steps

abbrev pub after : Terms → List HistoryStep → Site
after terms steps = after_from terms first_site steps

abbrev pub IsHistoryFrom : Terms → Site → List HistoryStep → Type 0
IsHistoryFrom terms site [] = Unit {0}
IsHistoryFrom terms site (made ∷ steps) = IsLegal terms site.fields made.step × HasBytes made × IsHistoryFrom terms (effect terms made site) steps

abbrev pub IsHistory : Terms → List HistoryStep → Type 0
IsHistory terms steps = IsHistoryFrom terms first_site steps

-- how many bytes the records of these steps take in the journal: a gate, a length of four bytes and the written form each
abbrev pub journal_length : List HistoryStep → ℕ
journal_length [] = 0
journal_length (made ∷ steps) = 5 + length (written made.step) + journal_length steps

-- the written forms of a history
abbrev pub written_forms : List HistoryStep → List (List ℕ)
written_forms steps = map (λ (made : HistoryStep). written made.step) steps

-- the second list of steps goes on from the first
abbrev pub Begins : List HistoryStep → List HistoryStep → Type 0
Begins front whole = (more : List HistoryStep) × (whole ≡ front ++ more)
