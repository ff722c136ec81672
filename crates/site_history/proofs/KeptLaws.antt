-- What holds of the fields after any history: `after_kept`, and of the bytes of files: `after_bytes`. `found-file` says it of the
-- file that a path finds, `there-file` of the file of an inode that is there, and `placed-file` and `indexed-file` of the file at
-- a place of the list, as code has it.
use Rattle.std.proofs.Common.{◌≡◌, ℕ, ◌+◌, ◌<◌, ◌≤◌, ◌^◌, ◌/◌, List, [], ◌∷◌, ◌++◌, length, get_or, set, refl, sym, ◌∙◌, ap, subst, arith, Option, Some, None, length-append}
use Rattle.std.specs.Prelude.{MatchOption, ◌==◌, find, IsTrue, if◌then◌else◌}
use Rattle.std.specs.Option.{option_map_or}
use Rattle.std.specs.Str.{bytes_eq}
use Rattle.std.specs.List.{remove}
use Rattle.std.proofs.lemmas.List.{length-set, length-map}
use Rattle.std.proofs.lemmas.Bool.{eqb-true}
use Rattle.std.proofs.lemmas.Slice.Eq.{bytes_eq-Decides}
use Rattle.base.specs.Paths.{is_legal_path}
use Rattle.site_types.specs.declared.file.FileRec.{FileRec}
use Rattle.site_types.specs.declared.file.Run.{Run}
use Rattle.site_types.specs.declared.file.SiteTexts.{SiteTexts}
use Rattle.site_types.specs.declared.step.PutStep.{PutStep}
use Rattle.site_types.specs.declared.step.StepKind.{StepKind}
use Rattle.site_types.specs.declared.step.StepKind.TheVariants.{Configured, Put, Accessed, Removed}
use Rattle.site_types.specs.Ranges.{IsInode}
use Rattle.site_types.specs.Texts.{no_texts}
use Rattle.step_codec.proofs.InRange.{ranges}
use Rattle.configuration.specs.ConfigurationTold.{configuration_of}
use Rattle.configuration.proofs.Laws.{blocks-range, no_texts-read}
use Rattle.configuration.proofs.Computed.{computed-says, computed-blocks}
use Rattle.cache_space.specs.Space.{AreThere, AreDisjoint}
use Rattle.cache_space.proofs.HeldBlocks.{AreThere-nil}
use Rattle.cache_space.proofs.LowestRuns.{AreMaximal-disjoint}
use Rattle.site_history.specs.Terms.{Terms}
use Rattle.site_history.specs.Site.{Fields, Site, first_fields, file_at, held_runs, cache_blocks, bytes_of}
use Rattle.site_history.specs.Changes.{with_file, without_file, with_change, without_inode, IsThere}
use Rattle.site_history.specs.PutSteps.{stored_file, put_effect, IsLegalPut}
use Rattle.site_history.specs.AccessedSteps.{accessed_at}
use Rattle.site_history.specs.RemovedSteps.{removed_effect}
use Rattle.site_history.specs.ConfiguredSteps.{configured_effect, IsLegalConfiguration}
use Rattle.site_history.specs.Steps.{HistoryStep, dated, fields_after, effect, IsLegal, HasBytes}
use Rattle.site_history.specs.Histories.{after, IsHistory}
use Rattle.site_history.specs.Kept.{AreBelow, IsFileKept, IsKept, HaveAllBytes}
use Rattle.site_history.proofs.HistoryLaws.{history-counts}
use Rattle.site_history.proofs.FileLaws.{are_below-more, with_file-new, with_file-set, without_file-remove, rising_at, below_at, rising-push, rising-set, rising-without, all-push, all-below, all-set, all-without, all_at, length-without}
use Rattle.site_history.proofs.ChangedFiles.{LeavesBytes, rising-changed, all-changed, held-changed}
use Rattle.site_history.proofs.FileChanges.{kept-later, accessed_leaves, kept-accessed}
use Rattle.site_history.proofs.DistinctInodes.{AreDistinct, rising_distinct}
use Rattle.site_history.proofs.HeldRuns.{there-at, pushed-disjoint, pushed-there, replaced-disjoint, replaced-there, removed-disjoint, removed-there}
use Rattle.site_history.proofs.Finds.{StandsAt, stands-at, found-stands, any-stands, find-inode, any-inode}
use Rattle.site_history.proofs.ByteEffects.{bytes_effect}

-- an empty queue stays empty
no_queue : (inode : ℕ) (queue : List ℕ) → queue ≡ [] → without_inode inode queue ≡ []
no_queue inode queue none = ap (λ (l : List ℕ). without_inode inode l) none

-- the cache of a configuration that is computed
computed-range : (texts : SiteTexts) → (1 ≤ (configuration_of texts).site.cache / 4096) × ((configuration_of texts).site.cache / 4096 ≤ 16777216)
computed-range texts = subst (λ (n : ℕ). (1 ≤ n) × (n ≤ 16777216)) (sym (computed-blocks texts)) (blocks-range texts)

-- the fields with these files, this next inode, at this moment, with this queue
abbrev fields_with : Fields → List FileRec → ℕ → ℕ → List ℕ → Fields
fields_with fields files next moment queue = record fields { files = files; next_inode = next; moment = moment; queue = queue }

-- those of a site that is configured
abbrev fields_of : Fields → List FileRec → ℕ → SiteTexts → Fields
fields_of fields files moment texts = dated moment (configured_effect texts (record fields { files = files }))

module _ (count : ℕ) (fields : Fields) (kept : IsKept count fields) (later : ℕ) (in_time : fields.moment ≤ later) (in_range : later < 2 ^ 40) where
  stays : (file : FileRec) → IsFileKept count fields.moment file → IsFileKept (count + 1) later file
  stays file k = kept-later count fields.moment later file in_time k

  -- a put of a new file
  module _ (put : PutStep) (legal : IsLegalPut fields put) where
    new_file_kept : IsFileKept (count + 1) later (stored_file None later put)
    new_file_kept = record {
      path = legal.path;
      owner = legal.owner;
      group = legal.group;
      cached = refl;
      small = legal.small;
      maximal = legal.maximal;
      blocks = legal.blocks;
      from_one = omega arith;
      generation = omega arith;
      modified = omega arith;
      accessed = omega arith;
      resided = omega arith;
    }

    new_kept : put.inode ≡ fields.next_inode → length fields.files < 65536 → fields.next_inode ≤ 4294967294
        → IsKept (count + 1) (fields_with fields (fields.files ++ stored_file None later put ∷ []) (fields.next_inode + 1) later (without_inode put.inode fields.queue))
    new_kept inode few fits =
        let below : AreBelow put.inode fields.files = subst (λ (n : ℕ). AreBelow n fields.files) (sym inode) kept.below in
        record {
          rising = rising-push 1 fields.files (stored_file None later put) (omega (arith, inode, kept.from_one)) below kept.rising;
          below = all-push (λ (file : FileRec). file.inode < fields.next_inode + 1) fields.files (stored_file None later put)
              (are_below-more fields.next_inode (fields.next_inode + 1) fields.files (omega arith) kept.below) (omega (arith, inode));
          from_one = omega (arith, kept.from_one);
          small = omega (arith, fits);
          few = omega (arith, few, length-append fields.files (stored_file None later put ∷ []));
          files = all-push (IsFileKept (count + 1) later) fields.files (stored_file None later put)
              (all-below (IsFileKept count fields.moment) (IsFileKept (count + 1) later) put.inode fields.files below (λ f other k. stays f k) kept.files) new_file_kept;
          there = pushed-there (cache_blocks fields) fields.files (stored_file None later put) kept.there legal.free.0;
          disjoint = pushed-disjoint fields.files (stored_file None later put) kept.disjoint (AreMaximal-disjoint put.runs legal.maximal) legal.free.1;
          volumes = kept.volumes;
          queue = no_queue put.inode fields.queue kept.queue;
          moment = in_range;
          configured = kept.configured;
          blocks = kept.blocks;
        }

    -- a put that replaces a file
    module _ (file : FileRec) (stands : StandsAt fields.files file) (inode : put.inode ≡ file.inode) (same_path : IsTrue (is_legal_path file.path))
        (file_kept : IsFileKept count fields.moment file) where
      replaced_file_kept : IsFileKept (count + 1) later (stored_file (Some file) later put)
      replaced_file_kept = record {
        path = same_path;
        owner = legal.owner;
        group = legal.group;
        cached = refl;
        small = legal.small;
        maximal = legal.maximal;
        blocks = legal.blocks;
        from_one = omega arith;
        generation = omega (arith, file_kept.generation);
        modified = omega arith;
        accessed = omega arith;
        resided = omega arith;
      }

      same_inode : (get_or fields.files stands.place file).inode ≡ file.inode
      same_inode = ap (λ (f : FileRec). f.inode) (stands.here file)

      replaced_kept : IsKept (count + 1) (fields_with fields (set fields.files stands.place (stored_file (Some file) later put)) fields.next_inode later (without_inode put.inode fields.queue))
      replaced_kept = record {
        rising = rising-set 1 fields.files stands.place file (stored_file (Some file) later put) same_inode stands.within kept.rising;
        below = all-set (λ (f : FileRec). f.inode < fields.next_inode) (λ (f : FileRec). f.inode < fields.next_inode) 1 (stored_file (Some file) later put) fields.files stands.place file
            kept.rising stands.within same_inode (λ f other lt. lt) (omega (arith, same_inode, below_at fields.next_inode fields.files stands.place file kept.below stands.within)) kept.below;
        from_one = kept.from_one;
        small = kept.small;
        few = omega (arith, kept.few, length-set fields.files stands.place (stored_file (Some file) later put));
        files = all-set (IsFileKept count fields.moment) (IsFileKept (count + 1) later) 1 (stored_file (Some file) later put) fields.files stands.place file
            kept.rising stands.within same_inode (λ f other k. stays f k) replaced_file_kept kept.files;
        there = replaced-there (cache_blocks fields) fields.files stands.place file stands.within (stored_file (Some file) later put) kept.there legal.free.0;
        disjoint = replaced-disjoint (cache_blocks fields) fields.files stands.place file stands.within (stored_file (Some file) later put) kept.disjoint (AreMaximal-disjoint put.runs legal.maximal) legal.free.1;
        volumes = kept.volumes;
        queue = no_queue put.inode fields.queue kept.queue;
        moment = in_range;
        configured = kept.configured;
        blocks = kept.blocks;
      }

    put_by : (o : Option FileRec) → file_at put.path fields.files ≡ o
        → put.inode ≡ option_map_or (λ (file : FileRec). file.inode) o fields.next_inode
        → MatchOption o ((length fields.files < 65536) × (fields.next_inode ≤ 4294967294)) (λ _. Unit {0})
        → IsKept (count + 1) (fields_with fields (with_file (stored_file o later put) fields.files)
        (option_map_or (λ (file : FileRec). fields.next_inode) o (fields.next_inode + 1)) later (without_inode put.inode fields.queue))
    put_by None e inode fits =
        subst (λ (l : List FileRec). IsKept (count + 1) (fields_with fields l (fields.next_inode + 1) later (without_inode put.inode fields.queue)))
        (sym (with_file-new (stored_file None later put) fields.files (subst (λ (n : ℕ). AreBelow n fields.files) (sym inode) kept.below)))
        (new_kept inode fits.0 fits.1)
    put_by (Some file) e inode fits =
        let found = found-stands (λ (f : FileRec). bytes_eq f.path put.path) fields.files file e in
        let file_kept : IsFileKept count fields.moment file =
        subst (λ (f : FileRec). IsFileKept count fields.moment f) (found.0.here file)
        (all_at (IsFileKept count fields.moment) fields.files found.0.place file kept.files found.0.within) in
        subst (λ (l : List FileRec). IsKept (count + 1) (fields_with fields l fields.next_inode later (without_inode put.inode fields.queue)))
        (sym (with_file-set 1 (stored_file (Some file) later put) fields.files found.0.place file kept.rising found.0.within (ap (λ (f : FileRec). f.inode) (found.0.here file))))
        (replaced_kept file found.0 inode file_kept.path file_kept)

    put_kept : (terms : Terms) → IsKept (count + 1) (dated later (put_effect terms later put fields))
    put_kept terms = put_by (file_at put.path fields.files) refl legal.inode legal.fits

  -- a change of one file that keeps it and leaves its bytes
  changed_kept : (inode : ℕ) (change : FileRec → FileRec) → LeavesBytes change
      → ((file : FileRec) → IsFileKept count fields.moment file → IsFileKept (count + 1) later (change file))
      → IsKept (count + 1) (dated later (with_change inode change fields))
  changed_kept inode change leaves keeps = record {
    rising = rising-changed inode change leaves 1 fields.files kept.rising;
    below = all-changed inode change (λ (f : FileRec). f.inode < fields.next_inode) (λ (f : FileRec). f.inode < fields.next_inode) fields.files
        (λ f lt. omega (arith, lt, leaves.inode f)) (λ f lt. lt) kept.below;
    from_one = kept.from_one;
    small = kept.small;
    few = omega (arith, kept.few, length-map fields.files (λ (f : FileRec). if f.inode == inode then change f else f));
    files = all-changed inode change (IsFileKept count fields.moment) (IsFileKept (count + 1) later) fields.files keeps (λ f k. stays f k) kept.files;
    there = subst (λ (l : List Run). AreThere (cache_blocks fields) l) (sym (held-changed inode change leaves fields.files)) kept.there;
    disjoint = subst (λ (l : List Run). AreDisjoint l) (sym (held-changed inode change leaves fields.files)) kept.disjoint;
    volumes = kept.volumes;
    queue = kept.queue;
    moment = in_range;
    configured = kept.configured;
    blocks = kept.blocks;
  }

  -- a removal
  removed_kept : (inode : ℕ) → IsThere fields inode → IsKept (count + 1) (dated later (removed_effect inode fields))
  removed_kept inode there =
      let found = any-stands (λ (f : FileRec). f.inode == inode) fields.files there in
      let same : (get_or fields.files found.1.place found.0).inode ≡ inode = ap (λ (f : FileRec). f.inode) (found.1.here found.0) ∙ eqb-true found.0.inode inode found.2 in
      let is : without_file inode fields.files ≡ remove fields.files found.1.place = without_file-remove 1 inode fields.files found.1.place found.0 kept.rising found.1.within same in
      record {
        rising = rising-without 1 inode fields.files kept.rising;
        below = all-without (λ (f : FileRec). f.inode < fields.next_inode) (λ (f : FileRec). f.inode < fields.next_inode) inode fields.files (λ f other lt. lt) kept.below;
        from_one = kept.from_one;
        small = kept.small;
        few = omega (arith, kept.few, length-without inode fields.files);
        files = all-without (IsFileKept count fields.moment) (IsFileKept (count + 1) later) inode fields.files (λ f other k. stays f k) kept.files;
        there = subst (λ (l : List FileRec). AreThere (cache_blocks fields) (held_runs l)) (sym is)
            (removed-there (cache_blocks fields) fields.files found.1.place found.0 found.1.within kept.there);
        disjoint = subst (λ (l : List FileRec). AreDisjoint (held_runs l)) (sym is)
            (removed-disjoint (cache_blocks fields) fields.files found.1.place found.0 found.1.within kept.disjoint);
        volumes = kept.volumes;
        queue = no_queue inode fields.queue kept.queue;
        moment = in_range;
        configured = kept.configured;
        blocks = kept.blocks;
      }

  -- a site without a file is configured anew
  configured_kept : (texts : SiteTexts) → IsLegalConfiguration fields texts → IsKept (count + 1) (dated later (configured_effect texts fields))
  configured_kept texts legal = subst (λ (l : List FileRec). IsKept (count + 1) (fields_of fields l later texts)) (sym legal.no_file) (record {
    rising = tt;
    below = tt;
    from_one = kept.from_one;
    small = kept.small;
    few = omega arith;
    files = tt;
    there = AreThere-nil ((configuration_of texts).site.cache / 4096);
    disjoint = tt;
    volumes = refl;
    queue = refl;
    moment = in_range;
    configured = computed-says texts legal.read;
    blocks = computed-range texts;
  })

kept_by : (terms : Terms) (count : ℕ) (fields : Fields) (moment : ℕ) (kind : StepKind) → IsKept count fields
    → IsLegal terms fields (record { moment = moment; kind = kind }) → IsKept (count + 1) (fields_after terms (record { moment = moment; kind = kind }) fields)
kept_by terms count fields moment (Put put) kept legal =
    put_kept count fields kept moment legal.1 (ranges (record { moment = moment; kind = Put put }) legal.0).0 put legal.2 terms
kept_by terms count fields moment (Accessed inode) kept legal =
    changed_kept count fields kept moment legal.1 (ranges (record { moment = moment; kind = Accessed inode }) legal.0).0 inode (accessed_at moment) (accessed_leaves moment)
    (λ file k. kept-accessed count fields.moment moment file legal.1 k)
kept_by terms count fields moment (Removed inode) kept legal =
    removed_kept count fields kept moment legal.1 (ranges (record { moment = moment; kind = Removed inode }) legal.0).0 inode legal.2
kept_by terms count fields moment (Configured texts) kept legal =
    configured_kept count fields kept moment legal.1 (ranges (record { moment = moment; kind = Configured texts }) legal.0).0 texts legal.2
kept_by terms count fields moment _ kept legal = absurd legal.2

-- Each legal step keeps the fields.
pub kept_effect : (terms : Terms) (count : ℕ) (fields : Fields) (made : HistoryStep) → IsKept count fields → IsLegal terms fields made.step → IsKept (count + 1) (fields_after terms made.step fields)
kept_effect terms count fields made kept legal = kept_by terms count fields made.step.moment made.step.kind kept legal

pub first_kept : IsKept 0 first_fields
first_kept = record {
  rising = tt;
  below = tt;
  from_one = omega arith;
  small = omega arith;
  few = omega arith;
  files = tt;
  there = AreThere-nil ((configuration_of no_texts).site.cache / 4096);
  disjoint = tt;
  volumes = refl;
  queue = refl;
  moment = omega arith;
  configured = computed-says no_texts no_texts-read;
  blocks = computed-range no_texts;
}

-- What holds of a site after so many steps.
abbrev pub IsWhole : ℕ → Site → Type 0
IsWhole count site = IsKept count site.fields × HaveAllBytes site

pub whole_effect : (terms : Terms) (count : ℕ) (site : Site) (made : HistoryStep) → IsWhole count site → IsLegal terms site.fields made.step → HasBytes made → IsWhole (count + 1) (effect terms made site)
whole_effect terms count site made (kept, bytes) legal has =
    (kept_effect terms count site.fields made kept legal, bytes_effect terms site made (rising_distinct 1 site.fields.files kept.rising) bytes legal has)

after_whole : (terms : Terms) (steps : List HistoryStep) → IsHistory terms steps → IsWhole (length steps) (after terms steps)
after_whole terms steps h = history-counts terms IsWhole (first_kept, tt) (whole_effect terms) steps h

-- after any history the fields are kept
pub after_kept : (terms : Terms) (steps : List HistoryStep) → IsHistory terms steps → IsKept (length steps) (after terms steps).fields
after_kept terms steps h = (after_whole terms steps h).0

-- and each file has all its bytes
pub after_bytes : (terms : Terms) (steps : List HistoryStep) → IsHistory terms steps → HaveAllBytes (after terms steps)
after_bytes terms steps h = (after_whole terms steps h).1

-- no two files have one inode
pub distinct_inodes : (terms : Terms) (steps : List HistoryStep) → IsHistory terms steps → AreDistinct (after terms steps).fields.files
distinct_inodes terms steps h = rising_distinct 1 (after terms steps).fields.files (after_kept terms steps h).rising

-- what is known of one of the files
pub record IsFileOf (count : ℕ) (fields : Fields) (file : FileRec) : Type 0 where
  pub stands : StandsAt fields.files file
  pub kept : IsFileKept count fields.moment file
  pub inode : IsInode file.inode
  pub below : file.inode < fields.next_inode
  pub finds : find (λ (f : FileRec). f.inode == file.inode) fields.files ≡ Some file
  pub there : IsThere fields file.inode
  pub runs : AreThere (cache_blocks fields) file.runs

-- it has as many bytes as its length says
pub file-bytes : (site : Site) (file : FileRec) → StandsAt site.fields.files file → HaveAllBytes site → length (bytes_of site.contents file.inode) ≡ file.length
file-bytes site file stands bytes = subst (λ (f : FileRec). length (bytes_of site.contents f.inode) ≡ f.length) (stands.here file)
    (all_at (λ (f : FileRec). length (bytes_of site.contents f.inode) ≡ f.length) site.fields.files stands.place file bytes stands.within)

module _ (count : ℕ) (fields : Fields) (kept : IsKept count fields) where
  -- the file at a place
  pub placed-file : (file : FileRec) → StandsAt fields.files file → IsFileOf count fields file
  placed-file file stands =
      let e : get_or fields.files stands.place file ≡ file = stands.here file in
      let same : (get_or fields.files stands.place file).inode ≡ file.inode = ap (λ (f : FileRec). f.inode) e in
      let low = rising_at 1 fields.files stands.place file kept.rising stands.within in
      let high = below_at fields.next_inode fields.files stands.place file kept.below stands.within in
      record {
        stands = stands;
        kept = subst (λ (f : FileRec). IsFileKept count fields.moment f) e
            (all_at (IsFileKept count fields.moment) fields.files stands.place file kept.files stands.within);
        inode = (omega (arith, same, low), omega (arith, same, high, kept.small));
        below = omega (arith, same, high);
        finds = find-inode 1 file.inode fields.files stands.place file kept.rising stands.within same ∙ ap (λ (f : FileRec). Some f) e;
        there = any-inode file.inode fields.files stands.place file stands.within same;
        runs = subst (λ (f : FileRec). AreThere (cache_blocks fields) f.runs) e (there-at (cache_blocks fields) fields.files stands.place file stands.within kept.there);
      }

  pub indexed-file : (i : ℕ) (d : FileRec) → i < length fields.files → IsFileOf count fields (get_or fields.files i d)
  indexed-file i d lt = placed-file (get_or fields.files i d) (stands-at fields.files i d lt)

  -- the file that a path finds has that path
  pub found-file : (path : List ℕ) (file : FileRec) → file_at path fields.files ≡ Some file → IsFileOf count fields file × (file.path ≡ path)
  found-file path file e =
      let found = found-stands (λ (f : FileRec). bytes_eq f.path path) fields.files file e in
      (placed-file file found.0, (bytes_eq-Decides file.path path).0 found.1)

  -- the file of an inode that is there
  pub there-file : (inode : ℕ) → IsThere fields inode → (file : FileRec) × IsFileOf count fields file × (file.inode ≡ inode)
  there-file inode there =
      let found = any-stands (λ (f : FileRec). f.inode == inode) fields.files there in
      (found.0, placed-file found.0 found.1, eqb-true found.0.inode inode found.2)
