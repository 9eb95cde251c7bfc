-- Arguments are read exactly.
use Rattle.std.proofs.Common.{◌≡◌, ℕ, ◌+◌, ◌<◌, ◌≤◌, Bool, true, false, cond, ◌&&◌, eqb, leb, List, [], ◌∷◌, ◌++◌, length, take, drop, Ok, Err, Result, sym, refl, ap, ◌∙◌, subst, arith}
use Rattle.std.specs.Int.Digits.{AllBelowBase}
use Rattle.std.proofs.ByRecursion.{All-take}
use Rattle.std.proofs.lemmas.List.{take_at, drop_at, take-append-drop, length-append, length-take-le, length-drop, nil_from_length}
use Rattle.std.proofs.lemmas.Bool.{and_parts, and_from, leb-true, le-leb, eqb-true, eq-eqb, cond-true}
use Rattle.refusal.specs.declared.Refusal.{Refusal}
use Rattle.refusal.specs.declared.Refusal.TheVariants.{Malformed}
use Rattle.keyhash.specs.Canonical.{KeyHash}
use Rattle.keyhash.specs.Element.{element, reading_element}
use Rattle.keyhash.proofs.Elements.{element_canonical}
use Rattle.permission.specs.Names.{IsName}
use Rattle.permission.specs.Reading.{is_name}
use Rattle.permission.proofs.Names.{is_name_decides}
use Rattle.records.specs.declared.types.Certificate.{Certificate}
use Rattle.records.specs.declared.types.Scope.{Scope}
use Rattle.records.specs.Inverse.{CertificateFits, WellFormedScope}
use Rattle.records.specs.Records.{scope_at, scope_in, with_scope, entry_in, certificate_bytes, certificate_in}
use Rattle.records.specs.RecordLaws.{entries_inverse, certificates_inverse}
use Rattle.actions.specs.declared.types.Action.{Action}
use Rattle.actions.specs.declared.types.Action.TheVariants.{TakeOwnership, SetSessionKeys, ExpireSessionKeys, GrantOwnership, RevokeOwnership, AddAclEntry, DeleteAclEntry, CacheCertificate, FactorySecurityReset, Perform}
use Rattle.actions.specs.Arguments.{Arguments, Arguments.take_ownership, Arguments.set_session_keys, Arguments.expire_session_keys, Arguments.grant_ownership, Arguments.revoke_ownership, Arguments.add_entry, Arguments.delete_entry, Arguments.cache_certificate, Arguments.factory_security_reset, Arguments.perform, certificate_length, longest_payload, made_of, bytes_in, nothing_in, caching_of, caching_in, performing_of, perform_in, arguments_in}
use Rattle.actions.specs.Forms.{taken_by, bytes_of, WellFormed, ReadExactly}
use Rattle.actions.proofs.Reading.{certificate_and_tag, name_and_payload}

-- what an answer `Ok` says of the test before it
ok_after : {X : Type 0} (b : Bool) (r : Result X Refusal) (x : X) → cond b r (Err Malformed) ≡ Ok x → (b ≡ true) × (r ≡ Ok x)
ok_after true r x is = (refl, is)
ok_after false r x is = let z : ◌≡◌ {A = ℕ} 0 1 = cc in absurd (omega arith)

made_back : {X : Type 0} (make : X → Arguments) (r : Result X Refusal) (a : Arguments) → made_of make r ≡ Ok a → (x : X) × (r ≡ Ok x) × (make x ≡ a)
made_back make (Ok x) a is = (x, refl, cc)
made_back make (Err why) a is = let z : ◌≡◌ {A = ℕ} 0 1 = cc in absurd (omega arith)

same_ok : {X : Type 0} {x y : X} → ◌≡◌ {A = Result X Refusal} (Ok x) (Ok y) → x ≡ y
same_ok is = cc

-- the claim, for one action
abbrev Exact : ℕ → ℕ → Action → List ℕ → Arguments → Type 0
Exact session public action bytes a = (taken_by a ≡ action) × WellFormed session public a × (bytes_of a ≡ bytes)

exact_bytes : (session public : ℕ) (action : Action) (size : ℕ) (make : List ℕ → Arguments) (bytes : List ℕ) (a : Arguments) → (length bytes ≡ size → Exact session public action bytes (make bytes)) → bytes_in size make bytes ≡ Ok a → Exact session public action bytes a
unfolding bytes_in
exact_bytes session public action size make bytes a exact is =
    let (long, made) = ok_after (eqb (length bytes) size) (Ok (make bytes)) a is in
    subst (Exact session public action bytes) (same_ok made) (exact (eqb-true _ _ long))

exact_nothing : (session public : ℕ) (action : Action) (none : Arguments) (bytes : List ℕ) (a : Arguments) → Exact session public action [] none → nothing_in none bytes ≡ Ok a → Exact session public action bytes a
unfolding nothing_in
exact_nothing session public action none bytes a exact is =
    let (empty, made) = ok_after (eqb (length bytes) 0) (Ok none) a is in
    let nil : [] ≡ bytes = sym (nil_from_length bytes (eqb-true _ _ empty)) in
    subst (Exact session public action bytes) (same_ok made) (subst (λ (bs : List ℕ). Exact session public action bs none) nil exact)

exact_made : {X : Type 0} (session public : ℕ) (action : Action) (make : X → Arguments) (r : Result X Refusal) (bytes : List ℕ) (a : Arguments) → ((x : X) → r ≡ Ok x → Exact session public action bytes (make x)) → made_of make r ≡ Ok a → Exact session public action bytes a
exact_made session public action make r bytes a exact is =
    let (x, read, made) = made_back make r a is in subst (Exact session public action bytes) made (exact x read)

exact_hash : (bytes hash : List ℕ) → reading_element bytes ≡ Ok hash → KeyHash hash × (element hash ≡ bytes)
exact_hash bytes hash is = let h = element_canonical.only_written_text_reads bytes hash is in (h.0, sym h.1)

exact_caching : (session public : ℕ) (bytes : List ℕ) (a : Arguments) → AllBelowBase 256 bytes → caching_in public bytes ≡ Ok a → Exact session public CacheCertificate bytes a
unfolding caching_in caching_of
exact_caching session public bytes a under is =
    let front = take certificate_length bytes in
    let back = drop certificate_length bytes in
    let (long, cached) = ok_after (eqb (length bytes) (certificate_length + public)) (caching_of (take certificate_length bytes) (drop certificate_length bytes)) a is in
    let size : length bytes ≡ certificate_length + public = eqb-true _ _ long in
    exact_made session public CacheCertificate (λ c. cache_certificate c (take certificate_length bytes) (drop certificate_length bytes)) (certificate_in (take certificate_length bytes)) bytes a
    (λ c read. let h = certificates_inverse.what_reads_is_written_back (take certificate_length bytes) c (All-take (λ d. d < 256) certificate_length bytes under) read in
    (refl, (h.0, h.1, h.2, length-drop certificate_length bytes ∙ (let s = size in omega arith)), take-append-drop certificate_length bytes))
    cached

exact_command : (session public : ℕ) (bytes : List ℕ) (a : Arguments) → perform_in bytes ≡ Ok a → Exact session public Perform bytes a
unfolding perform_in performing_of
exact_command session public [] a is = let z : ◌≡◌ {A = ℕ} 0 1 = cc in absurd (omega arith)
exact_command session public (n ∷ rest) a is =
    let (within, performing) = ok_after (leb n (length rest)) (performing_of (take n rest) (drop n rest)) a is in
    let (sound, made) = ok_after (is_name (take n rest) && leb (length (drop n rest)) longest_payload) (Ok (perform (take n rest) (drop n rest))) a performing in
    let (named, short) = and_parts _ _ sound in
    let size : length (take n rest) ≡ n = length-take-le n rest (leb-true _ _ within) in
    subst (Exact session public Perform (n ∷ rest)) (same_ok made)
    (refl, ((is_name_decides (take n rest)).0 named, leb-true _ _ short), ap (λ k. k ∷ (take n rest ++ drop n rest)) size ∙ ap (λ bs. n ∷ bs) (take-append-drop n rest))

exact : (session public : ℕ) (action : Action) (bytes : List ℕ) (a : Arguments) → AllBelowBase 256 bytes → arguments_in session public action bytes ≡ Ok a → Exact session public action bytes a
exact session public TakeOwnership bytes a under is = exact_bytes session public TakeOwnership session take_ownership bytes a (λ long. (refl, long, refl)) is
exact session public SetSessionKeys bytes a under is = exact_bytes session public SetSessionKeys 20 set_session_keys bytes a (λ long. (refl, long, refl)) is
exact session public ExpireSessionKeys bytes a under is = exact_nothing session public ExpireSessionKeys expire_session_keys bytes a (refl, tt, refl) is
exact session public GrantOwnership bytes a under is = exact_made session public GrantOwnership grant_ownership (reading_element bytes) bytes a (λ hash read. let h = exact_hash bytes hash read in (refl, h.0, h.1)) is
exact session public RevokeOwnership bytes a under is = exact_made session public RevokeOwnership revoke_ownership (reading_element bytes) bytes a (λ hash read. let h = exact_hash bytes hash read in (refl, h.0, h.1)) is
exact session public AddAclEntry bytes a under is = exact_made session public AddAclEntry add_entry (entry_in bytes) bytes a (λ e read. let h = entries_inverse.what_reads_is_written_back bytes e under read in (refl, (h.0, h.1), h.2)) is
exact session public DeleteAclEntry bytes a under is = exact_made session public DeleteAclEntry delete_entry (entry_in bytes) bytes a (λ e read. let h = entries_inverse.what_reads_is_written_back bytes e under read in (refl, (h.0, h.1), h.2)) is
exact session public CacheCertificate bytes a under is = exact_caching session public bytes a under is
exact session public FactorySecurityReset bytes a under is = exact_nothing session public FactorySecurityReset factory_security_reset bytes a (refl, tt, refl) is
exact session public Perform bytes a under is = exact_command session public bytes a is

-- the other way
bytes_read : (size : ℕ) (make : List ℕ → Arguments) (bytes : List ℕ) → length bytes ≡ size → bytes_in size make bytes ≡ Ok (make bytes)
unfolding bytes_in
bytes_read size make bytes long = cond-true _ _ _ (eq-eqb (length bytes) size long)

nothing_read : (none : Arguments) → nothing_in none [] ≡ Ok none
unfolding nothing_in
nothing_read none = refl

certificate_read : (public : ℕ) (c : Certificate) (bytes tag : List ℕ) → CertificateFits c → WellFormedScope c.scope → certificate_bytes c ≡ bytes → length tag ≡ public → caching_in public (bytes ++ tag) ≡ Ok (cache_certificate c bytes tag)
unfolding caching_of
certificate_read public c bytes tag fits sound is long =
    let size : length bytes ≡ certificate_length = ap length (sym is) ∙ (certificates_inverse.every_record_has_its_size c fits).0 in
    let read : certificate_in bytes ≡ Ok c = ap certificate_in (sym is) ∙ certificates_inverse.what_is_written_reads_back c fits sound in
    certificate_and_tag public (bytes ++ tag) (length-append bytes tag ∙ (let s = size in let l = long in omega arith))
    ∙ ap (λ front. caching_of front (drop certificate_length (bytes ++ tag))) (take_at bytes tag certificate_length size)
    ∙ ap (caching_of bytes) (drop_at bytes tag certificate_length size)
    ∙ ap (made_of (λ found. cache_certificate found bytes tag)) read

command_read : (name payload : List ℕ) → IsName name → length payload ≤ longest_payload → perform_in (length name ∷ (name ++ payload)) ≡ Ok (perform name payload)
unfolding performing_of
command_read name payload named short =
    name_and_payload (length name ∷ (name ++ payload)) (length name) (name ++ payload) refl (let e = length-append name payload in omega arith)
    ∙ ap (λ front. performing_of front (drop (length name) (name ++ payload))) (take_at name payload (length name) refl)
    ∙ ap (performing_of name) (drop_at name payload (length name) refl)
    ∙ cond-true _ _ _ (and_from _ _ ((is_name_decides name).1 named) (le-leb (length payload) longest_payload short))

read_back : (session public : ℕ) (a : Arguments) → WellFormed session public a → arguments_in session public (taken_by a) (bytes_of a) ≡ Ok a
read_back session public (take_ownership proof) w = bytes_read session take_ownership proof w
read_back session public (set_session_keys key) w = bytes_read 20 set_session_keys key w
read_back session public expire_session_keys w = nothing_read expire_session_keys
read_back session public (grant_ownership hash) w = ap (made_of grant_ownership) (element_canonical.written_text_reads_back hash w)
read_back session public (revoke_ownership hash) w = ap (made_of revoke_ownership) (element_canonical.written_text_reads_back hash w)
read_back session public (add_entry e) w = ap (made_of add_entry) (entries_inverse.what_is_written_reads_back e w.0 w.1)
read_back session public (delete_entry e) w = ap (made_of delete_entry) (entries_inverse.what_is_written_reads_back e w.0 w.1)
read_back session public (cache_certificate c bytes tag) w = certificate_read public c bytes tag w.0 w.1 w.2 w.3
read_back session public factory_security_reset w = nothing_read factory_security_reset
read_back session public (perform name payload) w = command_read name payload w.0 w.1

-- a refusal is `Malformed`
abbrev Only : {X : Type 0} → Result X Refusal → Type 0
Only r = (why : Refusal) → r ≡ Err why → why ≡ Malformed

only_err : {X : Type 0} → Only {X = X} (Err Malformed)
only_err why is = cc

only_ok : {X : Type 0} (x : X) → Only (Ok x)
only_ok x why is = let z : ◌≡◌ {A = ℕ} 0 1 = cc in absurd (omega arith)

only_cond : {X : Type 0} (b : Bool) (r : Result X Refusal) → Only r → Only (cond b r (Err Malformed))
only_cond true r only = only
only_cond false r only = only_err

only_made : {X : Type 0} (make : X → Arguments) (r : Result X Refusal) → Only r → Only (made_of make r)
only_made make (Ok x) only = only_ok (make x)
only_made make (Err other) only = λ why is. let same : other ≡ why = cc in sym same ∙ only other refl

only_with_scope : {R : Type 0} (make : Scope → R) (r : Result Scope Refusal) → Only r → Only (with_scope make r)
only_with_scope make (Ok scope) only = only_ok (make scope)
only_with_scope make (Err other) only = λ why is. let same : other ≡ why = cc in sym same ∙ only other refl

only_scope : (bytes : List ℕ) → Only (scope_in bytes)
unfolding scope_in
only_scope bytes = only_cond _ _ (only_ok (scope_at bytes))

only_hash : (bytes : List ℕ) → Only (reading_element bytes)
unfolding reading_element
only_hash bytes = only_cond _ _ (only_ok _)

only_entry : (bytes : List ℕ) → Only (entry_in bytes)
unfolding entry_in
only_entry bytes = only_cond _ _ (only_with_scope _ _ (only_scope (drop 20 bytes)))

only_certificate : (bytes : List ℕ) → Only (certificate_in bytes)
unfolding certificate_in
only_certificate bytes = only_cond _ _ (only_with_scope _ _ (only_scope (drop 60 bytes)))

only_caching : (public : ℕ) (bytes : List ℕ) → Only (caching_in public bytes)
unfolding caching_in caching_of
only_caching public bytes = only_cond _ _ (only_made _ _ (only_certificate (take certificate_length bytes)))

only_command : (bytes : List ℕ) → Only (perform_in bytes)
unfolding perform_in performing_of
only_command [] = only_err
only_command (n ∷ rest) =
    only_cond (leb n (length rest)) (performing_of (take n rest) (drop n rest))
    (only_cond (is_name (take n rest) && leb (length (drop n rest)) longest_payload) (Ok (perform (take n rest) (drop n rest))) (only_ok (perform (take n rest) (drop n rest))))

only_bytes : (size : ℕ) (make : List ℕ → Arguments) (bytes : List ℕ) → Only (bytes_in size make bytes)
unfolding bytes_in
only_bytes size make bytes = only_cond _ _ (only_ok (make bytes))

only_nothing : (none : Arguments) (bytes : List ℕ) → Only (nothing_in none bytes)
unfolding nothing_in
only_nothing none bytes = only_cond _ _ (only_ok none)

only_malformed : (session public : ℕ) (action : Action) (bytes : List ℕ) → Only (arguments_in session public action bytes)
only_malformed session public TakeOwnership bytes = only_bytes session take_ownership bytes
only_malformed session public SetSessionKeys bytes = only_bytes 20 set_session_keys bytes
only_malformed session public ExpireSessionKeys bytes = only_nothing expire_session_keys bytes
only_malformed session public GrantOwnership bytes = only_made grant_ownership (reading_element bytes) (only_hash bytes)
only_malformed session public RevokeOwnership bytes = only_made revoke_ownership (reading_element bytes) (only_hash bytes)
only_malformed session public AddAclEntry bytes = only_made add_entry (entry_in bytes) (only_entry bytes)
only_malformed session public DeleteAclEntry bytes = only_made delete_entry (entry_in bytes) (only_entry bytes)
only_malformed session public CacheCertificate bytes = only_caching public bytes
only_malformed session public FactorySecurityReset bytes = only_nothing factory_security_reset bytes
only_malformed session public Perform bytes = only_command bytes

pub read_exactly : (session public : ℕ) → ReadExactly session public
read_exactly session public = record { what_is_written_reads_back = read_back session public; what_reads_is_well_formed = exact session public; all_else_is_malformed = only_malformed session public }
