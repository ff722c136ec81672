-- What is read from the left as options is what the fields say, both ways.
use Rattle.std.proofs.Common.{◌≡◌, Bool, true, false, cond, List, [], ◌∷◌, ◌++◌, Ok, Err, refl, sym, ap, subst, ◌∙◌, inl, inr, append_assoc}
use Rattle.std.proofs.lemmas.List.{append-nil}
use Rattle.site_text.specs.declared.fault.ConfFault.{ConfFault}
use Rattle.site_text.specs.declared.fault.ConfFault.TheVariants.{MissingField, Conflict}
use Rattle.site_text.specs.Fields.{Field, Read, ◌>>=◌, next_field}
use Rattle.site_text.specs.Options.{Options, OptionForm, Alone, WithValue}
use Rattle.site_text.specs.OptionRules.{OptionSays, PartsSay, OptionsSay, ValueWrong, OptionWrong, OptionsWrong, fields_in}
use Rattle.site_text.specs.OptionSteps.{with_given, given_by, given_at, by_form, options_of}
use Rattle.site_text.proofs.OptionLoop.{steps}

-- ---- from reading to meaning

abbrev Judges : {V : Type 0} → Options V → List V → List Field → Read (List V) → Type 0
Judges options before fields (Ok given) = OptionsSay options before fields given
Judges options before fields (Err fault) = OptionsWrong options before fields fault

-- nothing is read before a fault
wrong_first : {V : Type 0} (options : Options V) (before : List V) (fields : List Field) (fault : ConfFault) → OptionWrong options before fields fault → OptionsWrong options before fields fault
wrong_first options before fields fault here = record { parts = []; rest = fields; given = before; cut = refl; say = refl; here = here }

-- one more part stands before what is judged
one_more : {V : Type 0} (options : Options V) (before : List V) (part rest : List Field) (v : V) (read : Read (List V)) → OptionSays options part v → options.excludes before v ≡ false
    → Judges options (before ++ v ∷ []) rest read → Judges options before (part ++ rest) read
one_more options before part rest v (Ok given) says fresh all = record { parts = part ∷ all.parts; cut = ap (λ (t : List Field). part ++ t) all.cut; say = (v, says, fresh, all.say) }
one_more options before part rest v (Err fault) says fresh wrong = record {
  parts = part ∷ wrong.parts;
  rest = wrong.rest;
  given = wrong.given;
  cut = ap (λ (t : List Field). part ++ t) wrong.cut ∙ sym (append_assoc part (fields_in wrong.parts) wrong.rest);
  say = (v, says, fresh, wrong.say);
  here = wrong.here;
}

-- what is judged at any list of what was given before
abbrev AllJudged : {V : Type 0} → Options V → List Field → Type 0
AllJudged {V} options fields = (now : List V) → Judges options now fields (options_of options now fields)

-- what is given alone, and the fields behind
alone_judged : {V : Type 0} (options : Options V) (before : List V) (f : Field) (fields : List Field) (v : V) (b : Bool) → options.option f ≡ Ok (Alone v) → options.excludes before v ≡ b → AllJudged options fields
    → Judges options before (f ∷ fields) (cond b (Err Conflict) (Ok (before ++ v ∷ [])) >>= λ now. options_of options now fields)
alone_judged options before f fields v false is fresh rest = one_more options before (f ∷ []) fields v (options_of options (before ++ v ∷ []) fields) is fresh (rest (before ++ v ∷ []))
alone_judged options before f fields v true is taken rest = wrong_first options before (f ∷ fields) Conflict (inr (inr (v, is, (taken, refl))))

value_given : {V : Type 0} (options : Options V) (before : List V) (f g : Field) (fields : List Field) (kind : Field → Read V) (v : V) (b : Bool) → options.option f ≡ Ok (WithValue kind) → kind g ≡ Ok v → options.excludes before v ≡ b → AllJudged options fields
    → Judges options before (f ∷ g ∷ fields) (cond b (Err Conflict) (Ok (before ++ v ∷ [])) >>= λ now. options_of options now fields)
value_given options before f g fields kind v false is says fresh rest = one_more options before (f ∷ g ∷ []) fields v (options_of options (before ++ v ∷ []) fields) (kind, is, says) fresh (rest (before ++ v ∷ []))
value_given options before f g fields kind v true is says taken rest = wrong_first options before (f ∷ g ∷ fields) Conflict (inr (inl (kind, is, inr (v, says, (taken, refl)))))

value_judged : {V : Type 0} (options : Options V) (before : List V) (f g : Field) (fields : List Field) (kind : Field → Read V) (read : Read V) → options.option f ≡ Ok (WithValue kind) → kind g ≡ read → AllJudged options fields
    → Judges options before (f ∷ g ∷ fields) (read >>= λ v. with_given options before v >>= λ now. options_of options now fields)
value_judged options before f g fields kind (Ok v) is says rest = value_given options before f g fields kind v (options.excludes before v) is says refl rest
value_judged options before f g fields kind (Err fault) is says rest = wrong_first options before (f ∷ g ∷ fields) fault (inr (inl (kind, is, inl says)))

ends_there : {A : Type 0} (read : Read A) → (read >>= λ now. Ok now) ≡ read
ends_there (Ok x) = refl
ends_there (Err e) = refl

nothing_behind : {V : Type 0} (options : Options V) → AllJudged options []
unfolding options_of
nothing_behind options now = record { parts = []; cut = refl; say = refl }

last_alone : {V : Type 0} (options : Options V) (before : List V) (f : Field) (v : V) → options.option f ≡ Ok (Alone v) → Judges options before (f ∷ []) (with_given options before v)
unfolding options_of
last_alone options before f v is = subst (Judges options before (f ∷ [])) (ends_there (with_given options before v)) (alone_judged options before f [] v (options.excludes before v) is refl (nothing_behind options))

last_judged : {V : Type 0} (options : Options V) (before : List V) (f : Field) (read : Read (OptionForm V)) → options.option f ≡ read
    → Judges options before (f ∷ []) (read >>= λ form. by_form form (λ v. with_given options before v) (λ kind. Err MissingField))
last_judged options before f (Ok (Alone v)) is = last_alone options before f v is
last_judged options before f (Ok (WithValue kind)) is = wrong_first options before (f ∷ []) MissingField (inr (inl (kind, is, refl)))
last_judged options before f (Err fault) is = wrong_first options before (f ∷ []) fault (inl is)

next_judged : {V : Type 0} (options : Options V) (before : List V) (f g : Field) (fields : List Field) (read : Read (OptionForm V)) → options.option f ≡ read → AllJudged options fields → AllJudged options (g ∷ fields)
    → Judges options before (f ∷ g ∷ fields) (read >>= λ form. by_form form (λ v. with_given options before v >>= λ now. options_of options now (g ∷ fields)) (λ kind. kind g >>= λ v. with_given options before v >>= λ now. options_of options now fields))
next_judged options before f g fields (Ok (Alone v)) is behind next = alone_judged options before f (g ∷ fields) v (options.excludes before v) is refl next
next_judged options before f g fields (Ok (WithValue kind)) is behind next = value_judged options before f g fields kind (kind g) is refl behind
next_judged options before f g fields (Err fault) is behind next = wrong_first options before (f ∷ g ∷ fields) fault (inl is)

judged : {V : Type 0} (options : Options V) (before : List V) (fields : List Field) → Judges options before fields (options_of options before fields)
unfolding options_of
judged options before [] = nothing_behind options before
judged options before (f ∷ []) = last_judged options before f (options.option f) refl
judged options before (f ∷ g ∷ fields) = next_judged options before f g fields (options.option f) refl (λ now. judged options now fields) (λ now. judged options now (g ∷ fields))

pub options_said : {V : Type 0} (options : Options V) (before : List V) (fields : List Field) (given : List V) → options_of options before fields ≡ Ok given → OptionsSay options before fields given
options_said options before fields given is = subst (Judges options before fields) is (judged options before fields)

pub options_wrong : {V : Type 0} (options : Options V) (before : List V) (fields : List Field) (fault : ConfFault) → options_of options before fields ≡ Err fault → OptionsWrong options before fields fault
options_wrong options before fields fault is = subst (Judges options before fields) is (judged options before fields)

-- ---- from meaning to reading

-- a part is read as what it gives
part_read : {V : Type 0} (options : Options V) (before : List V) (part rest : List Field) (v : V) → OptionSays options part v → options.excludes before v ≡ false → options_of options before (part ++ rest) ≡ options_of options (before ++ v ∷ []) rest
unfolding given_at given_by next_field
part_read options before [] rest v says fresh = absurd says
part_read options before (f ∷ []) rest v is fresh = steps options before f rest ∙ rw (is, fresh) refl
part_read options before (f ∷ g ∷ []) rest v (kind, is, says) fresh = steps options before f (g ∷ rest) ∙ rw (is, says, fresh) refl
part_read options before (f ∷ g ∷ h ∷ more) rest v says fresh = absurd says

parts_read : {V : Type 0} (options : Options V) (before : List V) (parts : List (List Field)) (rest : List Field) (given : List V) → PartsSay options before parts given → options_of options before (fields_in parts ++ rest) ≡ options_of options given rest
parts_read {V} options before [] rest given is = ap (λ (now : List V). options_of options now rest) (sym is)
parts_read options before (part ∷ parts) rest given (v, says, fresh, more) =
    ap (options_of options before) (append_assoc part (fields_in parts) rest) ∙ part_read options before part (fields_in parts ++ rest) v says fresh ∙ parts_read options (before ++ v ∷ []) parts rest given more

pub options_read : {V : Type 0} (options : Options V) (before : List V) (fields : List Field) (given : List V) → OptionsSay options before fields given → options_of options before fields ≡ Ok given
unfolding options_of
options_read options before fields given says = ap (options_of options before) (says.cut ∙ sym (append-nil (fields_in says.parts))) ∙ parts_read options before says.parts [] given says.say

value_refused : {V : Type 0} (options : Options V) (now : List V) (f : Field) (fields : List Field) (kind : Field → Read V) (fault : ConfFault) → options.option f ≡ Ok (WithValue kind) → ValueWrong options kind now fields fault → options_of options now (f ∷ fields) ≡ Err fault
unfolding given_at given_by next_field
value_refused options now f [] kind fault is missing = steps options now f [] ∙ rw (is, missing) refl
value_refused options now f (g ∷ fields) kind fault is (inl wrong) = steps options now f (g ∷ fields) ∙ rw (is, wrong) refl
value_refused options now f (g ∷ fields) kind fault is (inr (v, says, (taken, conflict))) = steps options now f (g ∷ fields) ∙ rw (is, says, taken, conflict) refl

refused_here : {V : Type 0} (options : Options V) (now : List V) (rest : List Field) (fault : ConfFault) → OptionWrong options now rest fault → options_of options now rest ≡ Err fault
unfolding given_at given_by
refused_here options now [] fault wrong = absurd wrong
refused_here options now (f ∷ fields) fault (inl is) = steps options now f fields ∙ rw is refl
refused_here options now (f ∷ fields) fault (inr (inl (kind, is, wrong))) = value_refused options now f fields kind fault is wrong
refused_here options now (f ∷ fields) fault (inr (inr (v, is, (taken, conflict)))) = steps options now f fields ∙ rw (is, taken, conflict) refl

pub options_refused : {V : Type 0} (options : Options V) (before : List V) (fields : List Field) (fault : ConfFault) → OptionsWrong options before fields fault → options_of options before fields ≡ Err fault
options_refused options before fields fault wrong =
    ap (options_of options before) wrong.cut ∙ parts_read options before wrong.parts wrong.rest wrong.given wrong.say ∙ refused_here options wrong.given wrong.rest fault wrong.here
