-- Plans are of the answers that they are made for.
use Rattle.std.proofs.Common.{◌≡◌, ℕ, ◌≤◌, ◌<◌, ◌^◌, List, length, take, min, sym, ◌∙◌, ap, arith, Bool, Option, Some, None}
use Rattle.std.specs.Prelude.{is_none}
use Rattle.std.specs.Borrow.{Bor}
use Rattle.std.specs.Option.{option_copied}
use Rattle.std.specs.Str.{bytes_eq}
use Rattle.std.specs.Global.{Vec}
use Rattle.std.proofs.lemmas.List.{take_min, length-take}
use Rattle.site_events.specs.declared.event.Event.TheVariants.{Put as PutEvent, Read as ReadEvent}
use Rattle.site_types.specs.declared.file.FileRec.{FileRec}
use Rattle.site_types.specs.declared.file.Run.{Run}
use Rattle.site_events.specs.declared.reply.Reply.{Reply}
use Rattle.site_events.specs.declared.reply.Reply.TheVariants.{Stored}
use Rattle.site_types.specs.declared.step.Step.{Step}
use Rattle.site_types.specs.declared.step.PutStep.{PutStep}
use Rattle.site_types.specs.declared.step.StepKind.{StepKind}
use Rattle.site_types.specs.declared.step.StepKind.TheVariants.{Put, Accessed}
use Rattle.cache_space.specs.Blocks.{blocks_for, free_blocks, lowest_runs}
use Rattle.cache_space.specs.Space.{AreMaximal, blocks_in}
use Rattle.step_codec.specs.Lengths.{step_length}
use Rattle.step_codec.proofs.InRange.{in_range}
use Rattle.site_types.specs.Ranges.{Ranges}
use Rattle.site_history.specs.Terms.{Terms}
use Rattle.site_history.specs.Site.{Fields, Site, file_at, held_runs, bytes_of, cache_blocks}
use Rattle.site_history.specs.Steps.{HistoryStep, runs_by}
use Rattle.site_history.specs.PutSteps.{inode_for}
use Rattle.site_history.specs.Kept.{IsKept, HaveAllBytes}
use Rattle.site_history.specs.Answers.{answer_to}
use Rattle.site_history.specs.FileAnswers.{put_rule, put_made}
use Rattle.site_history.specs.Running.{Running}
use Rattle.site_history.specs.Replies.{Answer, makes, bare_step}
use Rattle.site_history.proofs.KeptLaws.{IsFileOf, found-file}
use Rattle.site_history.proofs.Accesses.{read_length}
use Rattle.site_history.proofs.Puts.{admitted}
use Rattle.site_history.proofs.Turns.{put-stored, read-found}
use Rattle.site_state.specs.declared.prepare.Prepared.{Prepared}
use Rattle.site_state.specs.declared.prepare.Setting.{Setting}
use Rattle.site_state.specs.declared.state.SiteState.{SiteState}
use Rattle.site_state.specs.Room.{HasRoomFor, HasSettingFor}
use Rattle.site_state.proofs.Places.{found_place}
use Rattle.decisions.specs.declared.plan.Plan.TheVariants.{Make}
use Rattle.decisions.specs.declared.plan.Work.TheVariants.{Nothing, Store, Load}
use Rattle.decisions.specs.Needs.{IsRecordable}
use Rattle.decisions.specs.Plans.{LieAt, IsPlanOf}

-- what a search for a path says where it finds none, and where it finds a file
pub finds_none : (path known : List ℕ) (files : List FileRec) (found : Option (Bor FileRec)) → known ≡ path → option_copied found ≡ file_at known files → found ≡ None → file_at path files ≡ None
finds_none path known files found same e is = ap (λ (l : List ℕ). file_at l files) (sym same) ∙ sym e ∙ ap option_copied is

pub finds_file : (path known : List ℕ) (files : List FileRec) (found : Option (Bor FileRec)) (file : Bor FileRec) → known ≡ path → option_copied found ≡ file_at known files → found ≡ Some file
    → file_at path files ≡ Some file.now
finds_file path known files found file same e is = ap (λ (l : List ℕ). file_at l files) (sym same) ∙ sym e ∙ ap option_copied is

-- The rule of a put whose words are known by other names.
pub same_rule : (fields : Fields) (a b c path owner group : List ℕ) (m n : ℕ) → a ≡ path → b ≡ owner → c ≡ group → m ≡ n → put_rule fields path owner group n ≡ put_rule fields a b c m
same_rule fields a b c path owner group m n e f g h =
    ap (λ (l : List ℕ). put_rule fields l owner group n) (sym e)
    ∙ ap (λ (l : List ℕ). put_rule fields a l group n) (sym f)
    ∙ ap (λ (l : List ℕ). put_rule fields a b l n) (sym g)
    ∙ ap (λ (k : ℕ). put_rule fields a b c k) (sym h)

-- a step without runs, bytes or texts
pub bare_recordable : (state : SiteState) (moment : ℕ) (kind : StepKind) → moment < 2 ^ 40 → Ranges kind → step_length (record { moment = moment; kind = kind }) ≤ 1048576
    → AreMaximal (runs_by kind) → HasRoomFor state.files (record { moment = moment; kind = kind }) → HasSettingFor (record { moment = moment; kind = kind }) None
    → IsRecordable state (record { step = record { moment = moment; kind = kind }; setting = None })
bare_recordable state moment kind range ranges short maximal room setting = record {
  range = in_range (record { moment = moment; kind = kind }) range ranges;
  short = short;
  maximal = maximal;
  memory = record { room = room; setting = setting };
}

module _ (terms : Terms) (site : Site) (running : Running) (moment : ℕ) (setting : Option Setting) where
  -- a step that is made ready
  abbrev pub prepared_as : StepKind → Prepared
  prepared_as kind = record { step = record { moment = moment; kind = kind }; setting = setting }

  abbrev step_of : PutStep → Step
  step_of put = record { moment = moment; kind = Put put }

  -- a put that no rule refuses
  pub put_planned : (path owner group bytes known : List ℕ) (inode size : ℕ) (created : Bool) (runs : List Run) → put_rule site.fields path owner group (length bytes) ≡ None
      → known ≡ path → size ≡ length bytes → (inode ≡ inode_for site.fields known) × (created ≡ is_none (file_at known site.fields.files))
      → (blocks_for size ≤ length (free_blocks (cache_blocks site.fields) (held_runs site.fields.files))
      → runs ≡ lowest_runs (cache_blocks site.fields) (held_runs site.fields.files) (blocks_for size))
      → IsPlanOf site running (answer_to terms site running moment (PutEvent path owner group bytes))
      (Make (prepared_as (Put (record { inode = inode; path = path; owner = owner; group = group; length = size; runs = runs }))) (Store bytes (Stored inode created)))
  put_planned path owner group bytes known inode size created runs rule path_is size_is place lowest =
      let answer = put-stored terms site running moment path owner group bytes rule in
      let space = (admitted site.fields path owner group (length bytes) rule).space in
      let runs_are : runs ≡ lowest_runs (cache_blocks site.fields) (held_runs site.fields.files) (blocks_for (length bytes)) =
      lowest (omega (arith, space, size_is)) ∙ ap (λ (n : ℕ). lowest_runs (cache_blocks site.fields) (held_runs site.fields.files) (blocks_for n)) size_is in
      let inode_is : inode ≡ inode_for site.fields path = place.0 ∙ ap (λ (l : List ℕ). inode_for site.fields l) path_is in
      let created_is : created ≡ is_none (file_at path site.fields.files) = place.1 ∙ ap (λ (l : List ℕ). is_none (file_at l site.fields.files)) path_is in
      let same : step_of (record { inode = inode; path = path; owner = owner; group = group; length = size; runs = runs }) ≡ put_made site.fields moment path owner group (length bytes) =
      ap (λ (n : ℕ). step_of (record { inode = n; path = path; owner = owner; group = group; length = size; runs = runs })) inode_is
      ∙ ap (λ (n : ℕ). step_of (record { inode = inode_for site.fields path; path = path; owner = owner; group = group; length = n; runs = runs })) size_is
      ∙ ap (λ (l : List Run). step_of (record { inode = inode_for site.fields path; path = path; owner = owner; group = group; length = length bytes; runs = l })) runs_are in (
        ap (λ (a : Answer). a.step) answer ∙ ap (λ (s : Step). let o : Option HistoryStep = Some (record { step = s; bytes = bytes }) in o) (sym same),
        ap (λ (a : Answer). a.reply) answer ∙ ap (λ (n : ℕ). Stored n (is_none (file_at path site.fields.files))) (sym inode_is) ∙ ap (λ (b : Bool). Stored inode b) (sym created_is),
        ap (λ (a : Answer). a.running) answer,
      )

  -- a step without bytes, after which a reply that is known is given
  pub nothing_planned : (answer : Answer) (reply : Reply) (kind : StepKind) → answer ≡ makes running reply (bare_step moment kind)
      → IsPlanOf site running answer (Make (prepared_as kind) (Nothing reply))
  nothing_planned answer reply kind is = (ap (λ (a : Answer). a.step) is, ap (λ (a : Answer). a.reply) is, ap (λ (a : Answer). a.running) is)

  module _ (path : List ℕ) (file : FileRec) (found : file_at path site.fields.files ≡ Some file) where
    -- a read of a file that is there
    module _ (count : ℕ) (kept : IsKept count site.fields) (bytes : HaveAllBytes site) (upto : ℕ) where
      of : IsFileOf count site.fields file
      of = (found-file count site.fields kept path file found).0

      abbrev whole : List ℕ
      whole = bytes_of site.contents file.inode

      read_lies : (runs : List Run) → runs ≡ file.runs → LieAt site runs (take upto whole)
      read_lies runs same =
          let place = found_place (λ (f : FileRec). bytes_eq f.path path) site.fields.files file found in
          let long = read_length site file of.stands bytes upto in
          record {
            file = file;
            listed = (place.0, place.1, place.2 file);
            held = same;
            first = sym (take_min upto whole) ∙ ap (λ (n : ℕ). take n whole) (sym (length-take upto whole));
            cached = omega (arith, long, of.kept.cached);
            room = omega (arith, long, of.kept.blocks, ap blocks_in same);
          }

      pub read_planned : (runs : List Run) (buffer : Vec ℕ) → runs ≡ file.runs → length buffer.items ≡ min file.length upto
          → IsPlanOf site running (answer_to terms site running moment (ReadEvent path upto)) (Make (prepared_as (Accessed file.inode)) (Load runs buffer))
      read_planned runs buffer same count =
          let answer = read-found terms site running moment path upto file found in
          let long = read_length site file of.stands bytes upto in (
            ap (λ (a : Answer). a.step) answer,
            (take upto whole, ap (λ (a : Answer). a.reply) answer, omega (arith, long, count), read_lies runs same),
            ap (λ (a : Answer). a.running) answer,
          )
