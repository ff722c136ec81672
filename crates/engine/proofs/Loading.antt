-- What a work replies.
use Rattle.std.proofs.Common.{◌≡◌, inr, ℕ, ◌*◌, ◌≤◌, List, length, take, sym, ◌∙◌, ap, subst, arith, Bool, take-take, length-take}
use Rattle.std.specs.Prelude.{IsTrue}
use Rattle.std.specs.Global.{Vec}
use Rattle.bank.specs.Content.{Image}
use Rattle.bank.specs.View.{View, OnlyRead}
use Rattle.bank.specs.Inside.{WroteInside}
use Rattle.bank.proofs.Readings.{read_is_write}
use Rattle.bank.proofs.Inside.{wrote_inside}
use Rattle.site_types.specs.declared.file.Run.{Run}
use Rattle.site_events.specs.declared.reply.Reply.{Reply}
use Rattle.site_events.specs.declared.reply.Reply.TheVariants.{Bytes}
use Rattle.cache_space.specs.Space.{blocks_in}
use Rattle.site_history.specs.Site.{Site, bytes_of}
use Rattle.site_history.specs.Images.{extents}
use Rattle.site_history.specs.Extents.{extents_over, AllStand}
use Rattle.site_history.specs.Pinned.{in_blocks_of}
use Rattle.site_history.specs.Turns.{IsReply}
use Rattle.site_history.proofs.FileReads.{listed_stands}
use Rattle.site_history.proofs.Turns.{is_reply-bytes}
use Rattle.decisions.specs.declared.plan.Work.TheVariants.{Load}
use Rattle.decisions.specs.Plans.{LieAt, Gives}

-- bytes that lie at runs are read there, as many as a buffer has
lying : (c : Image) (site : Site) (runs : List Run) (bytes got : List ℕ) (n : ℕ) → LieAt site runs bytes → length bytes ≡ n → AllStand c (extents site)
    → ((whole : List ℕ) → n ≤ blocks_in runs * 4096 → n ≤ length whole → AllStand c (extents_over runs whole) → got ≡ take n whole) → got ≡ bytes
lying c site runs bytes got n lies long stand read =
    let all : List ℕ = bytes_of site.contents lies.file.inode in
    let whole : List ℕ = take lies.file.cached all in
    let enough : n ≤ length whole = omega (arith, lies.cached, long, length-take lies.file.cached all, ap length lies.first, length-take (length bytes) all) in
    let there : AllStand c (extents_over runs whole) =
    subst (λ (l : List Run). AllStand c (extents_over l whole)) (sym lies.held) (listed_stands c site lies.file lies.listed stand) in
    read whole (omega (arith, lies.room, long)) enough there
    ∙ take-take n lies.file.cached all (omega (arith, lies.cached, long))
    ∙ ap (λ (k : ℕ). take k all) (sym long) ∙ sym lies.first

-- so that a load replies what is defined, or as many bytes where the store tells nothing
pub load_gives : (told : Bool) (c : Image) (site : Site) (runs : List Run) (buffer : Vec ℕ) (got : List ℕ) (defined : Reply) → Gives site (Load runs buffer) defined → (IsTrue told → AllStand c (extents site))
    → length got ≡ length buffer.items
    → (IsTrue told → (whole : List ℕ) → length buffer.items ≤ blocks_in runs * 4096 → length buffer.items ≤ length whole → AllStand c (extents_over runs whole) → got ≡ take (length buffer.items) whole)
    → IsReply told defined (Bytes got)
load_gives told c site runs buffer got defined given stand long read =
    subst (λ (r : Reply). IsReply told r (Bytes got)) (sym given.1)
    (is_reply-bytes told given.0 got (λ t. lying c site runs given.0 got (length buffer.items) given.3 given.2 (stand t) (read t)) (long ∙ sym given.2))

-- what is only read is written inside whatever bytes
pub read_inside : (runs : List Run) (old new : View) → OnlyRead old new → WroteInside 1 (in_blocks_of runs) old new
read_inside runs old new only = wrote_inside 1 (in_blocks_of runs) 0 0 old new (λ k out. inr (omega arith)) (read_is_write 1 0 0 old new only)
