-- A put that no rule refuses is legal. `admitted` says what is known then, `put_legal` that its step may come, `put_has_bytes`
-- that its bytes are those it says.
use Rattle.std.proofs.Common.{◌≡◌, ℕ, ◌<◌, ◌≤◌, ◌^◌, List, length, refl, arith, Bool, true, false, cond, Option, Some, None}
use Rattle.std.specs.Prelude.{is_none, ◌&&◌, ◌||◌, not, nat_le, nat_lt, MatchOption, IsTrue}
use Rattle.std.specs.Option.{option_map_or}
use Rattle.std.proofs.lemmas.Bool.Decides.{nat_tests}
use Rattle.site_types.specs.declared.file.FileRec.{FileRec}
use Rattle.site_events.specs.declared.reply.Rule.TheVariants.{BadPath, BadAttribute, TooLarge, TooMany, NoSpace}
use Rattle.base.specs.Paths.{is_legal_path, is_legal_name}
use Rattle.site_types.specs.Ranges.{IsInode}
use Rattle.cache_space.specs.Blocks.{blocks_for, free_blocks, lowest_runs}
use Rattle.cache_space.proofs.LowestRuns.{lowest_runs-maximal, lowest_runs-free, blocks_in-lowest_runs, lowest_runs-there}
use Rattle.site_history.specs.Terms.{Terms}
use Rattle.site_history.specs.Site.{Fields, file_at, held_runs, cache_blocks}
use Rattle.site_history.specs.Steps.{IsLegal, HasBytes}
use Rattle.site_history.specs.PutSteps.{IsLegalPut, inode_for}
use Rattle.site_history.specs.FileAnswers.{put_rule, put_for, put_made, put_step, is_full, lacks_space}
use Rattle.site_history.proofs.RunRanges.{lowest_runs-few, maximal-small}
use Rattle.site_history.proofs.StepRanges.{put_in_range}
use Rattle.site_history.proofs.KeptLaws.{found-file}
use Rattle.site_history.specs.Kept.{IsKept}

-- what is known where no rule refuses: a new file fits
pub record IsAdmitted (fields : Fields) (path owner group : List ℕ) (size : ℕ) : Type 0 where
  pub legal_path : IsTrue (is_legal_path path)
  pub legal_owner : IsTrue (is_legal_name owner)
  pub legal_group : IsTrue (is_legal_name group)
  pub small : size ≤ 16777216
  pub fits : MatchOption (file_at path fields.files) ((length fields.files < 65536) × (fields.next_inode ≤ 4294967294)) (λ _. Unit {0})
  pub space : blocks_for size ≤ length (free_blocks (cache_blocks fields) (held_runs fields.files))

fits_by : (fields : Fields) (o : Option FileRec) → (is_none o && is_full fields) ≡ false → MatchOption o ((length fields.files < 65536) × (fields.next_inode ≤ 4294967294)) (λ _. Unit {0})
fits_by fields None e =
    let many : nat_le 65536 (length fields.files) || nat_lt 4294967294 fields.next_inode ≡ false = e in
    (grind (arith, nat_tests, many), grind (arith, nat_tests, many))
fits_by fields (Some file) e = tt

-- the tests one by one
admitted_by : (fields : Fields) (path owner group : List ℕ) (size : ℕ) (tp to tg large many lacking : Bool)
    → is_legal_path path ≡ tp → is_legal_name owner ≡ to → is_legal_name group ≡ tg
    → nat_lt 16777216 size ≡ large → (is_none (file_at path fields.files) && is_full fields) ≡ many → lacks_space fields size ≡ lacking
    → cond (not tp) (Some BadPath) (cond (not (to && tg)) (Some BadAttribute)
    (cond large (Some TooLarge) (cond many (Some TooMany) (cond lacking (Some NoSpace) None)))) ≡ None
    → IsAdmitted fields path owner group size
admitted_by fields path owner group size true true true false false false p o g l m s e = record {
  legal_path = p;
  legal_owner = o;
  legal_group = g;
  small = grind (arith, nat_tests, l);
  fits = fits_by fields (file_at path fields.files) m;
  space = grind (arith, nat_tests, s);
}
admitted_by fields path owner group size false o g l m s ep eo eg el em es e = absurd (cc)
admitted_by fields path owner group size true false g l m s ep eo eg el em es e = absurd (cc)
admitted_by fields path owner group size true true false l m s ep eo eg el em es e = absurd (cc)
admitted_by fields path owner group size true true true true m s ep eo eg el em es e = absurd (cc)
admitted_by fields path owner group size true true true false true s ep eo eg el em es e = absurd (cc)
admitted_by fields path owner group size true true true false false true ep eo eg el em es e = absurd (cc)

-- the inode of a put
inode_by : (count : ℕ) (fields : Fields) (path : List ℕ) (o : Option FileRec) → IsKept count fields → file_at path fields.files ≡ o
    → MatchOption o ((length fields.files < 65536) × (fields.next_inode ≤ 4294967294)) (λ _. Unit {0})
    → IsInode (option_map_or (λ (file : FileRec). file.inode) o fields.next_inode)
inode_by count fields path None kept e fits = (kept.from_one, fits.1)
inode_by count fields path (Some file) kept e fits = (found-file count fields kept path file e).0.inode

-- what of a put is known of any site
module _ (fields : Fields) (path owner group : List ℕ) (size : ℕ) where
  pub admitted : put_rule fields path owner group size ≡ None → IsAdmitted fields path owner group size
  admitted e = admitted_by fields path owner group size _ _ _ _ _ _ refl refl refl refl refl refl e

  -- the put meets its rule
  pub put_for_legal : IsAdmitted fields path owner group size → IsLegalPut fields (put_for fields path owner group size)
  put_for_legal a = record {
    path = a.legal_path;
    owner = a.legal_owner;
    group = a.legal_group;
    small = a.small;
    inode = refl;
    fits = a.fits;
    maximal = lowest_runs-maximal (cache_blocks fields) (held_runs fields.files) (blocks_for size);
    free = lowest_runs-free (cache_blocks fields) (held_runs fields.files) (blocks_for size);
    blocks = blocks_in-lowest_runs (cache_blocks fields) (held_runs fields.files) (blocks_for size) a.space;
  }

-- in a site after some history
module _ (terms : Terms) (count : ℕ) (fields : Fields) (kept : IsKept count fields) (path owner group : List ℕ) (size : ℕ) (rule : put_rule fields path owner group size ≡ None) where
  -- its inode is a number from 1 to 4,294,967,294
  pub put_inode : IsInode (inode_for fields path)
  put_inode = inode_by count fields path (file_at path fields.files) kept refl (admitted fields path owner group size rule).fits

  -- its step may come
  pub put_legal : (moment : ℕ) → fields.moment ≤ moment → moment < 2 ^ 40 → IsLegal terms fields (put_made fields moment path owner group size)
  put_legal moment later range =
      let a = admitted fields path owner group size rule in (
        put_in_range (put_for fields path owner group size) a.small a.legal_path a.legal_owner a.legal_group
            (lowest_runs-few (cache_blocks fields) (held_runs fields.files) (blocks_for size)) moment range put_inode
            (maximal-small (cache_blocks fields) (lowest_runs (cache_blocks fields) (held_runs fields.files) (blocks_for size)) (omega (arith, kept.blocks))
            (lowest_runs-maximal (cache_blocks fields) (held_runs fields.files) (blocks_for size)) (lowest_runs-there (cache_blocks fields) (held_runs fields.files) (blocks_for size))),
        later,
        put_for_legal fields path owner group size a,
      )

-- it comes with as many bytes as it says
pub put_has_bytes : (fields : Fields) (moment : ℕ) (path owner group bytes : List ℕ) → HasBytes (put_step fields moment path owner group bytes)
put_has_bytes fields moment path owner group bytes = refl
