-- One round from its parts.
use Rattle.std.proofs.Common.{◌≡◌, ◌+◌, ℕ, List, length, refl, sym, ◌∙◌, ap, subst, Option, Bool, IsTrue}
use Rattle.base.specs.Causes.{AreCounted}
use Rattle.outside.specs.declared.folder.NamedText.{NamedText}
use Rattle.bank.specs.Content.{Image}
use Rattle.bank.specs.View.{View, IsSound}
use Rattle.site_events.specs.declared.reply.Reply.{Reply}
use Rattle.site_history.specs.Terms.{Terms}
use Rattle.site_history.specs.Worlds.{World, steps_of}
use Rattle.site_history.specs.Images.{ReadsAs}
use Rattle.engine.specs.declared.engine.Engine.{Engine}
use Rattle.engine.specs.StandsFor.{StandsFor}
use Rattle.session.specs.Requests.{Request}
use Rattle.session.specs.Standing.{StandsAt, IsMoved}
use Rattle.session.specs.Rounds.{Phase, Round, IsRoundOf, first_of, cause_of, faults_of, journal_faults_of, folder_faults_of, mark_of}
use Rattle.session.specs.OneRound.{IsRound, Writes}
use Rattle.session.proofs.KeptLaws.{reads_since}
use Rattle.session.specs.declared.kept.Mark.{Mark}
use Rattle.session.specs.declared.kept.Ending.{Ending}

-- Since a moment a crash left only images that read as the world for which the engine stands.
images_since : (terms : Terms) → {B P : Type 0} (told : Bool) (view : B → View) (engine : Engine B P) (w : World) → (IsTrue told → IsSound (view engine.bank)) → StandsFor terms told view engine w
    → IsTrue told → (c : Image) → (view engine.bank).left_since (view engine.bank).instant c → ReadsAs terms w c
images_since terms told view engine w sound stands t c left = (stands.images t c ((sound t).only_now c left))

-- A round from the phase at which a session stands, by its answer and its mark.
pub made : (terms : Terms) → {B P : Type 0} (told : Bool) (view : B → View) (engine engine' : Engine B P) (own_moment' : Option ℕ) (clock' : Option (List ℕ)) (folder : Option (List NamedText)) (phase : Phase) (request : Request) (reply : Reply)
    (written written' : Option (List ℕ)) (faults faults' folder_faults folder_faults' bank_faults bank_faults' journal_faults journal_faults' last_fault : ℕ) (marks mid marks' : List Mark) (status status' : ℕ) (end : Option Ending)
    (text : List ℕ) (closes : Bool) (mark : Mark)
    → (IsTrue told → IsSound (view engine.bank)) → (IsTrue told → IsSound (view engine'.bank))
    → (phase' : Phase) × IsRoundOf terms told folder phase request.asked last_fault ((view engine.bank).content 0) reply phase' × IsMoved terms told view engine engine' own_moment' clock' phase phase'
    × AreCounted folder_faults (folder_faults_of reply) folder_faults'
    → status' ≡ first_of status (cause_of reply) → AreCounted bank_faults (faults_of reply) bank_faults'
    → AreCounted journal_faults (journal_faults_of reply last_fault) journal_faults'
    → mid ≡ marks → mark.answered ≡ length mid + 1 → ((w : World) → StandsFor terms told view engine' w → mark.steps ≡ steps_of w) → (IsTrue told → mark.instant ≡ (view engine'.bank).instant)
    → request.text reply ≡ text → request.closes reply ≡ closes → Writes written written' faults faults' mid marks' end text closes mark
    → (round : Round) × IsRound terms (StandsAt terms told view engine' own_moment' clock') told folder (view engine.bank) (view engine'.bank) phase request
    written written' faults faults' folder_faults folder_faults' bank_faults bank_faults' journal_faults journal_faults' last_fault marks marks' status status' end round
made terms told view engine engine' own_moment' clock' folder phase request reply written written' faults faults' folder_faults folder_faults' bank_faults bank_faults' journal_faults journal_faults' last_fault marks mid marks' status status' end text closes mark sound_before sound turn cause counted journal_counted same answered steps at_instant is_text is_last tells = (
  record { request = request; reply = reply; after = turn.0; area = last_fault; journal = (view engine.bank).content 0; instant = mark.instant },
  record {
    same = refl;
    turn = turn.1;
    stands = record { world = turn.2.world; moments = turn.2.moments };
    first_cause = cause;
    counted = counted;
    area = refl;
    journal_counted = journal_counted;
    journal_stood = λ t. ((view engine.bank).content, reads_since _ _ _ (sound_before t) (turn.2.meanwhile t), refl);
    folder_counted = turn.3;
    instant = at_instant;
    meanwhile = turn.2.meanwhile;
    since = images_since terms told view engine' turn.0.world sound turn.2.world;
    writes_answer = subst (λ (ms : List Mark). Writes written written' faults faults' ms marks' end (request.text reply) (request.closes reply) (mark_of (length ms + 1) (record { request = request; reply = reply; after = turn.0; area = last_fault; journal = (view engine.bank).content 0; instant = mark.instant }))) same
        (subst (λ (m : Mark). Writes written written' faults faults' mid marks' end (request.text reply) (request.closes reply) m) same_mark
        (subst (λ (t : List ℕ). Writes written written' faults faults' mid marks' end t (request.closes reply) mark) (sym is_text)
        (subst (λ (b : Bool). Writes written written' faults faults' mid marks' end text b mark) (sym is_last) tells)));
  },
)
  where
    same_mark : mark ≡ mark_of (length mid + 1) (record { request = request; reply = reply; after = turn.0; area = last_fault; journal = (view engine.bank).content 0; instant = mark.instant })
    same_mark = ap (λ (n : ℕ). let m : Mark = record { answered = n; steps = mark.steps; instant = mark.instant } in m) answered
        ∙ ap (λ (n : ℕ). let m : Mark = record { answered = length mid + 1; steps = n; instant = mark.instant } in m) (steps turn.0.world turn.2.world)
