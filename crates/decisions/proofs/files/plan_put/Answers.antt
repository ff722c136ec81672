use Rattle.std.proofs.Common.{◌≡◌, ℕ, List, true, None, ◌∙◌, subst}
use Rattle.base.specs.Paths.{is_legal_path, is_legal_name}
use Rattle.site_history.proofs.StepRanges.{put_in_range, put_short}
use Rattle.site_history.proofs.Turns.{put-refused}
use Rattle.decisions.proofs.Planned.{same_rule, put_planned}
use Rattle.decisions.proofs.files.plan_put.Goals as goal

pub returns-in-Err-clause-answers : goal.returns-in-Err-clause-answers
returns-in-Err-clause-answers c = λ terms count site running kept bytes keeps.
    put-refused terms site running c.args.moment c.args.path c.args.owner c.args.group c.args.bytes c.in-Err.rule
    (same_rule site.fields _ _ _ c.args.path c.args.owner c.args.group _ _ c.as_slice.ensures c.as_slice-2.ensures c.as_slice-3.ensures c.len-size.ensures
    ∙ c.in-Err.ensures.refused site.fields keeps)

pub returns-clause-answers : goal.returns-clause-answers
returns-clause-answers c = λ terms count site running kept bytes keeps.
    put_planned terms site running c.args.moment None c.args.path c.args.owner c.args.group c.args.bytes c.as_slice.result.now c.in-Ok.place.inode c.len-size.result c.in-Ok.place.created c.in_ok-runs.runs
    (same_rule site.fields _ _ _ c.args.path c.args.owner c.args.group _ _ c.as_slice.ensures c.as_slice-2.ensures c.as_slice-3.ensures c.len-size.ensures
    ∙ c.in-Ok.ensures.admitted site.fields keeps)
    c.as_slice.ensures c.len-size.ensures (c.in-Ok.ensures.place site.fields keeps) (c.in_ok-runs.ensures.lowest site.fields keeps)

pub returns-clause-performable : goal.returns-clause-performable
returns-clause-performable c =
    let path = subst (λ (l : List ℕ). is_legal_path l ≡ true) c.as_slice.ensures c.in-Ok.ensures.legal.0 in
    let owner = subst (λ (l : List ℕ). is_legal_name l ≡ true) c.as_slice-2.ensures c.in-Ok.ensures.legal.1 in
    let group = subst (λ (l : List ℕ). is_legal_name l ≡ true) c.as_slice-3.ensures c.in-Ok.ensures.legal.2 in (
      record {
        range = put_in_range
            (record { inode = c.in-Ok.place.inode; path = c.args.path; owner = c.args.owner; group = c.args.group; length = c.len-size.result; runs = c.in_ok-runs.runs })
            c.in-Ok.ensures.small path owner group c.in_ok-runs.ensures.few c.args.moment c.requires c.in-Ok.ensures.inode c.in_ok-runs.ensures.small;
        short = put_short
            (record { inode = c.in-Ok.place.inode; path = c.args.path; owner = c.args.owner; group = c.args.group; length = c.len-size.result; runs = c.in_ok-runs.runs })
            c.in-Ok.ensures.small path owner group c.in_ok-runs.ensures.few c.args.moment;
        maximal = c.in_ok-runs.ensures.maximal;
        memory = record { room = λ none. c.in_ok-make_room.ensures.room; setting = tt };
      },
      tt,
    )
