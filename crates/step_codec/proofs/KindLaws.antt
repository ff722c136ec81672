-- The laws of the fields of each kind of step.
use Rattle.std.proofs.Common.{◌≡◌, ℕ, zero, suc, ◌-◌, ◌^◌, ◌<◌, Bool, true, false, refl, arith}
use Rattle.std.specs.Int.{w32, w64}
use Rattle.site_types.specs.declared.file.ReleaseKind.{ReleaseKind}
use Rattle.site_types.specs.declared.file.ReleaseKind.TheVariants as release
use Rattle.site_types.specs.declared.file.StageKind.{StageKind}
use Rattle.site_types.specs.declared.file.StageKind.TheVariants as stage
use Rattle.site_types.specs.declared.file.Flag.{Flag}
use Rattle.site_types.specs.declared.file.Flag.TheVariants as flags
use Rattle.step_codec.specs.Written.{number, moment, inode, copy, index, release_code, release_of, release_kind, stage_code, stage_of, stage_kind, flag_code, flag_of, flag, truth_code, truth_of, truth, block, run_of, run, runs, section_of, section, member_of, member, members, end_of, ends, inodes, texts_of, texts_parts, texts, put_of, put_parts, put, renamed_of, renamed_parts, renamed, attributed_of, attributed_parts, attributed, copy_made_of, copy_made_parts, copy_made, file_copy_of, file_copy_parts, file_copy, released_of, released_parts, released, staged_of, staged_parts, staged, damaged_of, damaged_parts, damaged, relabelled_of, relabelled_parts, relabelled, flagged_of, flagged_parts, flagged}
use Rattle.step_codec.proofs.Laws.{Lawful, wide32, wide64, number_lawful, choice_lawful}
use Rattle.step_codec.proofs.Combined.{both_lawful, made_lawful, text_lawful, list_lawful}

number_is_lawful : Lawful number
number_is_lawful = number_lawful w64 wide64 0 (2 ^ 64 - 1) (omega arith)

pub moment_lawful : Lawful moment
moment_lawful = number_lawful w64 wide64 0 (2 ^ 40 - 1) (omega arith)

pub inode_lawful : Lawful inode
inode_lawful = number_lawful w64 wide64 1 4294967294 (omega arith)

copy_lawful : Lawful copy
copy_lawful = number_lawful w64 wide64 1 4 (omega arith)

pub index_lawful : Lawful index
index_lawful = number_lawful w64 wide64 0 (2 ^ 32 - 1) (omega arith)

release_back : (b : ℕ) → b < 4 → release_code (release_of b) ≡ b
release_back zero lt = refl
release_back (suc zero) lt = refl
release_back (suc (suc zero)) lt = refl
release_back (suc (suc (suc zero))) lt = refl
release_back (suc (suc (suc (suc b)))) lt = absurd (omega arith)

release_again : (x : ReleaseKind) → (release_code x < 4) × (release_of (release_code x) ≡ x)
release_again release.Default = (omega arith, refl)
release_again release.Never = (omega arith, refl)
release_again release.AtOnce = (omega arith, refl)
release_again release.Partial = (omega arith, refl)

release_lawful : Lawful release_kind
release_lawful = choice_lawful 4 release_code release_of release_back release_again

stage_back : (b : ℕ) → b < 3 → stage_code (stage_of b) ≡ b
stage_back zero lt = refl
stage_back (suc zero) lt = refl
stage_back (suc (suc zero)) lt = refl
stage_back (suc (suc (suc b))) lt = absurd (omega arith)

stage_again : (x : StageKind) → (stage_code x < 3) × (stage_of (stage_code x) ≡ x)
stage_again stage.Default = (omega arith, refl)
stage_again stage.Never = (omega arith, refl)
stage_again stage.Associative = (omega arith, refl)

stage_lawful : Lawful stage_kind
stage_lawful = choice_lawful 3 stage_code stage_of stage_back stage_again

flag_back : (b : ℕ) → b < 2 → flag_code (flag_of b) ≡ b
flag_back zero lt = refl
flag_back (suc zero) lt = refl
flag_back (suc (suc b)) lt = absurd (omega arith)

flag_again : (x : Flag) → (flag_code x < 2) × (flag_of (flag_code x) ≡ x)
flag_again flags.Readonly = (omega arith, refl)
flag_again flags.Unavailable = (omega arith, refl)

flag_lawful : Lawful flag
flag_lawful = choice_lawful 2 flag_code flag_of flag_back flag_again

truth_back : (b : ℕ) → b < 2 → truth_code (truth_of b) ≡ b
truth_back zero lt = refl
truth_back (suc zero) lt = refl
truth_back (suc (suc b)) lt = absurd (omega arith)

truth_again : (x : Bool) → (truth_code x < 2) × (truth_of (truth_code x) ≡ x)
truth_again false = (omega arith, refl)
truth_again true = (omega arith, refl)

truth_lawful : Lawful truth
truth_lawful = choice_lawful 2 truth_code truth_of truth_back truth_again

block_lawful : Lawful block
block_lawful = number_lawful w32 wide32 0 (2 ^ 32 - 1) (omega arith)

run_lawful : Lawful run
run_lawful = made_lawful run_of (λ r. (r.first, r.count)) (λ x. refl) (λ r. refl) (both_lawful block_lawful block_lawful)

runs_lawful : Lawful runs
runs_lawful = list_lawful 0 (2 ^ 32 - 1) (omega arith) run_lawful

section_lawful : Lawful section
section_lawful = made_lawful section_of (λ s. (s.volume, (s.label, (s.place, s.length)))) (λ x. refl) (λ s. refl) (both_lawful index_lawful (both_lawful number_is_lawful (both_lawful number_is_lawful number_is_lawful)))

member_lawful : Lawful member
member_lawful = made_lawful member_of (λ m. (m.inode, (m.generation, m.sections))) (λ x. refl) (λ m. refl) (both_lawful inode_lawful (both_lawful number_is_lawful (list_lawful 1 8 (omega arith) section_lawful)))

members_lawful : Lawful members
members_lawful = list_lawful 0 512 (omega arith) member_lawful

ends_lawful : Lawful ends
ends_lawful = list_lawful 0 (2 ^ 32 - 1) (omega arith) (made_lawful end_of (λ e. (e.volume, e.used)) (λ x. refl) (λ e. refl) (both_lawful index_lawful number_is_lawful))

pub inodes_lawful : Lawful inodes
inodes_lawful = list_lawful 0 (2 ^ 32 - 1) (omega arith) inode_lawful

pub texts_lawful : Lawful texts
unfolding texts
texts_lawful = made_lawful texts_of texts_parts (λ x. refl) (λ x. refl) (both_lawful text_lawful (both_lawful text_lawful (both_lawful text_lawful (both_lawful text_lawful text_lawful))))

pub put_lawful : Lawful put
unfolding put
put_lawful = made_lawful put_of put_parts (λ x. refl) (λ x. refl) (both_lawful inode_lawful (both_lawful text_lawful (both_lawful text_lawful (both_lawful text_lawful (both_lawful number_is_lawful runs_lawful)))))

pub renamed_lawful : Lawful renamed
unfolding renamed
renamed_lawful = made_lawful renamed_of renamed_parts (λ x. refl) (λ x. refl) (both_lawful inode_lawful text_lawful)

pub attributed_lawful : Lawful attributed
unfolding attributed
attributed_lawful = made_lawful attributed_of attributed_parts (λ x. refl) (λ x. refl) (both_lawful inode_lawful (both_lawful release_lawful (both_lawful number_is_lawful stage_lawful)))

pub copy_made_lawful : Lawful copy_made
unfolding copy_made
copy_made_lawful = made_lawful copy_made_of copy_made_parts (λ x. refl) (λ x. refl) (both_lawful index_lawful (both_lawful copy_lawful (both_lawful text_lawful (both_lawful members_lawful ends_lawful))))

pub file_copy_lawful : Lawful file_copy
unfolding file_copy
file_copy_lawful = made_lawful file_copy_of file_copy_parts (λ x. refl) (λ x. refl) (both_lawful inode_lawful copy_lawful)

pub released_lawful : Lawful released
unfolding released
released_lawful = made_lawful released_of released_parts (λ x. refl) (λ x. refl) (both_lawful inode_lawful number_is_lawful)

pub staged_lawful : Lawful staged
unfolding staged
staged_lawful = made_lawful staged_of staged_parts (λ x. refl) (λ x. refl) (both_lawful inode_lawful (both_lawful copy_lawful runs_lawful))

pub damaged_lawful : Lawful damaged
unfolding damaged
damaged_lawful = made_lawful damaged_of damaged_parts (λ x. refl) (λ x. refl) (both_lawful inode_lawful (both_lawful copy_lawful truth_lawful))

pub relabelled_lawful : Lawful relabelled
unfolding relabelled
relabelled_lawful = made_lawful relabelled_of relabelled_parts (λ x. refl) (λ x. refl) (both_lawful index_lawful number_is_lawful)

pub flagged_lawful : Lawful flagged
unfolding flagged
flagged_lawful = made_lawful flagged_of flagged_parts (λ x. refl) (λ x. refl) (both_lawful index_lawful (both_lawful flag_lawful truth_lawful))
