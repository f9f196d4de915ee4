-- What resolved content leaves in a frame is what the rows say of it: lemmas on specs/Rows.antt and specs/Reader.antt
use Rattle.std.proofs.Common.{◌≡◌, refl, ℕ, Bool, true, false, ◌&&◌, ◌||◌, List, [], ◌∷◌, ◌++◌, map, Option, Some, None, codes, sym, ◌∙◌, ap, append_assoc}
use Rattle.std.specs.Str.{bytes_eq}
use Rattle.std.proofs.lemmas.List.{append-nil}
use Rattle.multistatus.specs.declared.scopes.Expanded.{Expanded}
use Rattle.multistatus.specs.declared.rows.Response.{Response}
use Rattle.multistatus.specs.declared.rows.Prop.{Prop}
use Rattle.multistatus.specs.declared.rows.Property.{Property}
use Rattle.multistatus.specs.declared.frames.Frame.{Frame}
use Rattle.multistatus.specs.declared.frames.Frame.TheVariants.{InMultistatus, InResponse, InPropstat, InProp, InProperty, InHref, InStatus, Ignored}
use Rattle.multistatus.specs.declared.frames.ResponseParts.{ResponseParts}
use Rattle.multistatus.specs.declared.frames.PropstatParts.{PropstatParts}
use Rattle.multistatus.specs.Steps.{◌>>=◌, all_some}
use Rattle.multistatus.specs.Namespaces.{Tree, end, chars, branch}
use Rattle.multistatus.specs.Rows.{is_dav, own_text, child_names, children, href_of, status_of, property_of, properties_of, propstat_from, propstat_of, joined_props, response_from, response_of, joined_rows, rows_of}
use Rattle.multistatus.specs.Reader.{joined, ended_response, new_response}
use Rattle.multistatus.proofs.Runs.{bind_same, bind_assoc, bytes_equal}
use Rattle.multistatus.proofs.Namings.{read_tree}

-- a name of DAV: isn't another one
other_name : (a b : List ℕ) (name : Expanded) → bytes_eq a b ≡ false → is_dav a name ≡ true → is_dav b name ≡ false
other_name a b name apart same =
    let local : name.local ≡ a = bytes_equal name.local a (first_true (bytes_eq name.local a) (bytes_eq name.space (codes "DAV:")) same) in
    ap (λ (l : List ℕ). bytes_eq l b && bytes_eq name.space (codes "DAV:")) local ∙ ap (λ (t : Bool). t && bytes_eq name.space (codes "DAV:")) apart
  where
    first_true : (s t : Bool) → (s && t) ≡ true → s ≡ true
    first_true true t h = refl
    first_true false t h = cc

-- what is passed over leaves nothing
pub ignored : (t : Tree) → read_tree t Ignored ≡ Some Ignored
ignored end = refl
ignored (chars t more) = ignored more
ignored (branch name inside more) = ap (λ (o : Option Frame). o >>= λ child. joined Ignored child >>= λ next. read_tree more next) (ignored inside) ∙ ignored more

href_read : (t : Tree) (text : List ℕ) → read_tree t (InHref text) ≡ Some (InHref (text ++ own_text t))
href_read end text = ap (λ b. Some (InHref b)) (sym (append-nil text))
href_read (chars t more) text = href_read more (text ++ t) ∙ ap (λ b. Some (InHref b)) (append_assoc text t (own_text more))
href_read (branch name inside more) text =
    ap (λ (o : Option Frame). o >>= λ child. joined (InHref text) child >>= λ next. read_tree more next) (ignored inside) ∙ href_read more text

status_read : (t : Tree) (text : List ℕ) → read_tree t (InStatus text) ≡ Some (InStatus (text ++ own_text t))
status_read end text = ap (λ b. Some (InStatus b)) (sym (append-nil text))
status_read (chars t more) text = status_read more (text ++ t) ∙ ap (λ b. Some (InStatus b)) (append_assoc text t (own_text more))
status_read (branch name inside more) text =
    ap (λ (o : Option Frame). o >>= λ child. joined (InStatus text) child >>= λ next. read_tree more next) (ignored inside) ∙ status_read more text

abbrev grown : Property → List ℕ → List (List ℕ × List ℕ) → List (List ℕ) → Frame
grown p text names hrefs = InProperty (record p { text = p.text ++ text; children = p.children ++ names; hrefs = p.hrefs ++ hrefs })

grown_same : (p : Property) (text s : List ℕ) (names ns : List (List ℕ × List ℕ)) (hrefs hs : List (List ℕ))
    → text ≡ s → names ≡ ns → hrefs ≡ hs → record p { text = text; children = names; hrefs = hrefs } ≡ record p { text = s; children = ns; hrefs = hs }
grown_same p text s names ns hrefs hs a b c = cc

abbrev PropertyRead : Tree → Type 0
PropertyRead t = (p : Property) → read_tree t (InProperty p) ≡ Some (grown p (own_text t) (child_names t) (map href_of (children (codes "href") t)))

property_branch : (name : Expanded) (inside more : Tree) → PropertyRead more → (t : Bool) → is_dav (codes "href") name ≡ t → PropertyRead (branch name inside more)
property_branch name inside more next true h p =
    let noted_p : Property = record p { children = p.children ++ (name.space, name.local) ∷ [] } in
    let held : Property = record noted_p { hrefs = p.hrefs ++ href_of inside ∷ [] } in
    rw h (ap (λ (o : Option Frame). o >>= λ child. joined (InProperty noted_p) child >>= λ f. read_tree more f) (href_read inside [])
    ∙ next held
    ∙ ap (λ (q : Property). Some (InProperty q)) (grown_same p _ _ _ _ _ _ refl (append_assoc p.children ((name.space, name.local) ∷ []) (child_names more))
    (append_assoc p.hrefs (href_of inside ∷ []) (map href_of (children (codes "href") more)))))
property_branch name inside more next false h p =
    let noted_p : Property = record p { children = p.children ++ (name.space, name.local) ∷ [] } in
    rw h (ap (λ (o : Option Frame). o >>= λ child. joined (InProperty noted_p) child >>= λ f. read_tree more f) (ignored inside)
    ∙ next noted_p
    ∙ ap (λ (q : Property). Some (InProperty q)) (grown_same p _ _ _ _ _ _ refl (append_assoc p.children ((name.space, name.local) ∷ []) (child_names more)) refl))

property_read : (t : Tree) → PropertyRead t
property_read end p = ap (λ (q : Property). Some (InProperty q)) (grown_same p _ _ _ _ _ _ (sym (append-nil p.text)) (sym (append-nil p.children)) (sym (append-nil p.hrefs)))
property_read (chars t more) p =
    property_read more (record p { text = p.text ++ t })
    ∙ ap (λ (q : Property). Some (InProperty q)) (grown_same p _ _ _ _ _ _ (append_assoc p.text t (own_text more)) refl refl)
property_read (branch name inside more) p = property_branch name inside more (property_read more) (is_dav (codes "href") name) refl p

prop_read : (t : Tree) (ps : List Property) → read_tree t (InProp ps) ≡ Some (InProp (ps ++ properties_of t))
prop_read end ps = ap (λ (l : List Property). Some (InProp l)) (sym (append-nil ps))
prop_read (chars t more) ps = prop_read more ps
prop_read (branch name inside more) ps =
    ap (λ (o : Option Frame). o >>= λ child. joined (InProp ps) child >>= λ f. read_tree more f)
    (property_read inside (record { space = name.space; name = name.local; text = []; children = []; hrefs = [] }))
    ∙ prop_read more (ps ++ property_of name inside ∷ [])
    ∙ ap (λ (l : List Property). Some (InProp l)) (append_assoc ps (property_of name inside ∷ []) (properties_of more))

-- a propstat
abbrev codes_in : Tree → Option (List ℕ)
codes_in t = all_some status_of (children (codes "status") t)

abbrev lists_in : Tree → List (List Property)
lists_in t = map properties_of (children (codes "prop") t)

abbrev propstat_with : PropstatParts → List (List Property) → List ℕ → Option Frame
propstat_with q lists found = Some (InPropstat (record { codes = q.codes ++ found; lists = q.lists ++ lists }))

abbrev PropstatRead : Tree → Type 0
PropstatRead t = (q : PropstatParts) → read_tree t (InPropstat q) ≡ (codes_in t >>= propstat_with q (lists_in t))

propstat_code : (q : PropstatParts) (code : Option ℕ) (lists : List (List Property)) (more : Option (List ℕ))
    → (code >>= λ c. more >>= propstat_with (record q { codes = q.codes ++ c ∷ [] }) lists)
    ≡ ((code >>= λ c. more >>= λ cs. Some (c ∷ cs)) >>= propstat_with q lists)
propstat_code q None lists more = refl
propstat_code q (Some c) lists None = refl
propstat_code q (Some c) lists (Some cs) = ap (λ (l : List ℕ). Some (InPropstat (record { codes = l; lists = q.lists ++ lists }))) (append_assoc q.codes (c ∷ []) cs)

propstat_status : (name : Expanded) (inside more : Tree) → PropstatRead more → is_dav (codes "prop") name ≡ false
    → (t : Bool) → is_dav (codes "status") name ≡ t → PropstatRead (branch name inside more)
propstat_status name inside more next other true h q =
    rw (other, h) (ap (λ (o : Option Frame). o >>= λ child. joined (InPropstat q) child >>= λ f. read_tree more f) (status_read inside [])
    ∙ bind_assoc (status_of inside) (λ (c : ℕ). Some (InPropstat (record q { codes = q.codes ++ c ∷ [] }))) (λ f. read_tree more f)
    ∙ bind_same (status_of inside) (λ (c : ℕ). read_tree more (InPropstat (record q { codes = q.codes ++ c ∷ [] })))
    (λ (c : ℕ). codes_in more >>= propstat_with (record q { codes = q.codes ++ c ∷ [] }) (lists_in more)) (λ c. next (record q { codes = q.codes ++ c ∷ [] }))
    ∙ propstat_code q (status_of inside) (lists_in more) (codes_in more))
propstat_status name inside more next other false h q =
    rw (other, h) (ap (λ (o : Option Frame). o >>= λ child. joined (InPropstat q) child >>= λ f. read_tree more f) (ignored inside) ∙ next q)

propstat_branch : (name : Expanded) (inside more : Tree) → PropstatRead more → (t : Bool) → is_dav (codes "prop") name ≡ t → PropstatRead (branch name inside more)
propstat_branch name inside more next true h q =
    let other : is_dav (codes "status") name ≡ false = other_name (codes "prop") (codes "status") name refl h in
    rw (h, other) (ap (λ (o : Option Frame). o >>= λ child. joined (InPropstat q) child >>= λ f. read_tree more f) (prop_read inside [])
    ∙ next (record q { lists = q.lists ++ properties_of inside ∷ [] })
    ∙ bind_same (codes_in more) (propstat_with (record q { lists = q.lists ++ properties_of inside ∷ [] }) (lists_in more)) (propstat_with q (properties_of inside ∷ lists_in more))
    (λ found. ap (λ (l : List (List Property)). Some (InPropstat (record { codes = q.codes ++ found; lists = l }))) (append_assoc q.lists (properties_of inside ∷ []) (lists_in more))))
propstat_branch name inside more next false h q = propstat_status name inside more next h (is_dav (codes "status") name) refl q

propstat_read : (t : Tree) → PropstatRead t
propstat_read end q = ap (λ (r : PropstatParts). Some (InPropstat r)) (parts_same q (sym (append-nil q.codes)) (sym (append-nil q.lists)))
  where
    parts_same : (q : PropstatParts) → q.codes ≡ q.codes ++ [] → q.lists ≡ q.lists ++ [] → q ≡ record { codes = q.codes ++ []; lists = q.lists ++ [] }
    parts_same q a b = ap (λ (l : List ℕ). record { codes = l; lists = q.lists }) a ∙ ap (λ (l : List (List Property)). record { codes = q.codes ++ []; lists = l }) b
propstat_read (chars t more) q = propstat_read more q
propstat_read (branch name inside more) q = propstat_branch name inside more (propstat_read more) (is_dav (codes "prop") name) refl q

-- a response
abbrev hrefs_in : Tree → List (List ℕ)
hrefs_in t = map href_of (children (codes "href") t)

abbrev propstats_in : Tree → Option (List (List Prop))
propstats_in t = all_some propstat_of (children (codes "propstat") t)

abbrev has_some : List (List Prop) → Bool
has_some [] = false
has_some (props ∷ more) = true

abbrev response_with : ResponseParts → List (List ℕ) → List ℕ → List (List Prop) → ResponseParts
response_with q hrefs found propstats =
    record { hrefs = q.hrefs ++ hrefs; codes = q.codes ++ found; has_propstat = q.has_propstat || has_some propstats; props = q.props ++ joined_props propstats }

abbrev ResponseRead : Tree → Type 0
ResponseRead t = (q : ResponseParts) → read_tree t (InResponse q)
    ≡ (codes_in t >>= λ found. propstats_in t >>= λ propstats. Some (InResponse (response_with q (hrefs_in t) found propstats)))

parts_same : (a b : ResponseParts) → a.hrefs ≡ b.hrefs → a.codes ≡ b.codes → a.has_propstat ≡ b.has_propstat → a.props ≡ b.props → InResponse a ≡ InResponse b
parts_same a b h c t p =
    ap (λ (x : List (List ℕ)). InResponse (record { hrefs = x; codes = a.codes; has_propstat = a.has_propstat; props = a.props })) h
    ∙ ap (λ (x : List ℕ). InResponse (record { hrefs = b.hrefs; codes = x; has_propstat = a.has_propstat; props = a.props })) c
    ∙ ap (λ (x : Bool). InResponse (record { hrefs = b.hrefs; codes = b.codes; has_propstat = x; props = a.props })) t
    ∙ ap (λ (x : List Prop). InResponse (record { hrefs = b.hrefs; codes = b.codes; has_propstat = b.has_propstat; props = x })) p

or_true : (t : Bool) → true ≡ (t || true)
or_true true = refl
or_true false = refl

or_none : (t : Bool) → t ≡ (t || false)
or_none true = refl
or_none false = refl

response_code : (q : ResponseParts) (hrefs : List (List ℕ)) (code : Option ℕ) (more : Option (List ℕ)) (propstats : Option (List (List Prop)))
    → (code >>= λ c. more >>= λ found. propstats >>= λ ps. Some (InResponse (response_with (record q { codes = q.codes ++ c ∷ [] }) hrefs found ps)))
    ≡ ((code >>= λ c. more >>= λ found. Some (c ∷ found)) >>= λ found. propstats >>= λ ps. Some (InResponse (response_with q hrefs found ps)))
response_code q hrefs None more propstats = refl
response_code q hrefs (Some c) None propstats = refl
response_code q hrefs (Some c) (Some found) None = refl
response_code q hrefs (Some c) (Some found) (Some ps) = ap Some (parts_same _ _ refl (append_assoc q.codes (c ∷ []) found) refl refl)

response_propstat : (q : ResponseParts) (hrefs : List (List ℕ)) (own : Option (List Prop)) (found : Option (List ℕ)) (propstats : Option (List (List Prop)))
    → (own >>= λ props. found >>= λ found. propstats >>= λ ps. Some (InResponse (response_with (record q { has_propstat = true; props = q.props ++ props }) hrefs found ps)))
    ≡ (found >>= λ found. (own >>= λ props. propstats >>= λ ps. Some (props ∷ ps)) >>= λ ps. Some (InResponse (response_with q hrefs found ps)))
response_propstat q hrefs None None propstats = refl
response_propstat q hrefs None (Some found) propstats = refl
response_propstat q hrefs (Some props) None propstats = refl
response_propstat q hrefs (Some props) (Some found) None = refl
response_propstat q hrefs (Some props) (Some found) (Some ps) = ap Some (parts_same _ _ refl refl (or_true q.has_propstat) (append_assoc q.props props (joined_props ps)))

response_href : (name : Expanded) (inside more : Tree) → ResponseRead more → is_dav (codes "href") name ≡ true → ResponseRead (branch name inside more)
response_href name inside more next h q =
    let status : is_dav (codes "status") name ≡ false = other_name (codes "href") (codes "status") name refl h in
    let propstat : is_dav (codes "propstat") name ≡ false = other_name (codes "href") (codes "propstat") name refl h in
    let held : ResponseParts = record q { hrefs = q.hrefs ++ href_of inside ∷ [] } in
    rw (h, status, propstat) (ap (λ (o : Option Frame). o >>= λ child. joined (InResponse q) child >>= λ f. read_tree more f) (href_read inside [])
    ∙ next held
    ∙ bind_same (codes_in more) (λ found. propstats_in more >>= λ ps. Some (InResponse (response_with held (hrefs_in more) found ps)))
    (λ found. propstats_in more >>= λ ps. Some (InResponse (response_with q (href_of inside ∷ hrefs_in more) found ps)))
    (λ found. bind_same (propstats_in more) (λ ps. Some (InResponse (response_with held (hrefs_in more) found ps)))
    (λ ps. Some (InResponse (response_with q (href_of inside ∷ hrefs_in more) found ps)))
    (λ ps. ap Some (parts_same _ _ (append_assoc q.hrefs (href_of inside ∷ []) (hrefs_in more)) refl refl refl))))

response_status : (name : Expanded) (inside more : Tree) → ResponseRead more → is_dav (codes "href") name ≡ false → is_dav (codes "status") name ≡ true → ResponseRead (branch name inside more)
response_status name inside more next href h q =
    let propstat : is_dav (codes "propstat") name ≡ false = other_name (codes "status") (codes "propstat") name refl h in
    rw (href, h, propstat) (ap (λ (o : Option Frame). o >>= λ child. joined (InResponse q) child >>= λ f. read_tree more f) (status_read inside [])
    ∙ bind_assoc (status_of inside) (λ (c : ℕ). Some (InResponse (record q { codes = q.codes ++ c ∷ [] }))) (λ f. read_tree more f)
    ∙ bind_same (status_of inside) (λ (c : ℕ). read_tree more (InResponse (record q { codes = q.codes ++ c ∷ [] })))
    (λ (c : ℕ). codes_in more >>= λ found. propstats_in more >>= λ ps. Some (InResponse (response_with (record q { codes = q.codes ++ c ∷ [] }) (hrefs_in more) found ps)))
    (λ c. next (record q { codes = q.codes ++ c ∷ [] }))
    ∙ response_code q (hrefs_in more) (status_of inside) (codes_in more) (propstats_in more))

propstat_joined : (q : ResponseParts) (inside : Tree)
    → (read_tree inside (InPropstat (record { codes = []; lists = [] })) >>= λ child. joined (InResponse q) child)
    ≡ (propstat_of inside >>= λ props. Some (InResponse (record q { has_propstat = true; props = q.props ++ props })))
propstat_joined q inside =
    ap (λ (o : Option Frame). o >>= λ child. joined (InResponse q) child) (propstat_read inside (record { codes = []; lists = [] }))
    ∙ bind_assoc (codes_in inside) (propstat_with (record { codes = []; lists = [] }) (lists_in inside)) (λ child. joined (InResponse q) child)
    ∙ sym (bind_assoc (codes_in inside) (λ (found : List ℕ). propstat_from found (lists_in inside)) (λ (props : List Prop). Some (InResponse (record q { has_propstat = true; props = q.props ++ props }))))

response_of_propstat : (name : Expanded) (inside more : Tree) → ResponseRead more → is_dav (codes "href") name ≡ false → is_dav (codes "status") name ≡ false
    → is_dav (codes "propstat") name ≡ true → ResponseRead (branch name inside more)
response_of_propstat name inside more next href status h q =
    rw (href, status, h) (
    sym (bind_assoc (read_tree inside (InPropstat (record { codes = []; lists = [] }))) (λ child. joined (InResponse q) child) (λ f. read_tree more f))
    ∙ ap (λ (o : Option Frame). o >>= λ f. read_tree more f) (propstat_joined q inside)
    ∙ bind_assoc (propstat_of inside) (λ (props : List Prop). Some (InResponse (record q { has_propstat = true; props = q.props ++ props }))) (λ f. read_tree more f)
    ∙ bind_same (propstat_of inside) (λ (props : List Prop). read_tree more (InResponse (record q { has_propstat = true; props = q.props ++ props })))
    (λ (props : List Prop). codes_in more >>= λ found. propstats_in more >>= λ ps. Some (InResponse (response_with (record q { has_propstat = true; props = q.props ++ props }) (hrefs_in more) found ps)))
    (λ props. next (record q { has_propstat = true; props = q.props ++ props }))
    ∙ response_propstat q (hrefs_in more) (propstat_of inside) (codes_in more) (propstats_in more))

response_other : (name : Expanded) (inside more : Tree) → ResponseRead more → is_dav (codes "href") name ≡ false → is_dav (codes "status") name ≡ false
    → is_dav (codes "propstat") name ≡ false → ResponseRead (branch name inside more)
response_other name inside more next href status propstat q =
    rw (href, status, propstat) (ap (λ (o : Option Frame). o >>= λ child. joined (InResponse q) child >>= λ f. read_tree more f) (ignored inside) ∙ next q)

response_branch : (name : Expanded) (inside more : Tree) → ResponseRead more → (s t u : Bool) → is_dav (codes "href") name ≡ s → is_dav (codes "status") name ≡ t
    → is_dav (codes "propstat") name ≡ u → ResponseRead (branch name inside more)
response_branch name inside more next true t u a b c = response_href name inside more next a
response_branch name inside more next false true u a b c = response_status name inside more next a b
response_branch name inside more next false false true a b c = response_of_propstat name inside more next a b c
response_branch name inside more next false false false a b c = response_other name inside more next a b c

response_read : (t : Tree) → ResponseRead t
response_read end q = ap Some (parts_same q (response_with q [] [] []) (sym (append-nil q.hrefs)) (sym (append-nil q.codes)) (or_none q.has_propstat) (sym (append-nil q.props)))
response_read (chars t more) q = response_read more q
response_read (branch name inside more) q =
    response_branch name inside more (response_read more) (is_dav (codes "href") name) (is_dav (codes "status") name) (is_dav (codes "propstat") name) refl refl refl q

ended-is : (hrefs : List (List ℕ)) (found : List ℕ) (propstats : List (List Prop))
    → ended_response hrefs found (has_some propstats) (joined_props propstats) ≡ response_from hrefs found propstats
ended-is [] found [] = refl
ended-is [] found (props ∷ more) = refl
ended-is (href ∷ []) [] [] = refl
ended-is (href ∷ other ∷ hrefs) [] [] = refl
ended-is (href ∷ hrefs) (code ∷ []) [] = refl
ended-is (href ∷ hrefs) (code ∷ other ∷ found) [] = refl
ended-is (href ∷ []) [] (props ∷ more) = refl
ended-is (href ∷ other ∷ hrefs) [] (props ∷ more) = refl
ended-is (href ∷ []) (code ∷ []) (props ∷ more) = refl
ended-is (href ∷ other ∷ hrefs) (code ∷ []) (props ∷ more) = refl
ended-is (href ∷ []) (code ∷ other ∷ found) (props ∷ more) = refl
ended-is (href ∷ next ∷ hrefs) (code ∷ other ∷ found) (props ∷ more) = refl

response_joined : (rows : List Response) (inside : Tree)
    → (read_tree inside new_response >>= λ child. joined (InMultistatus rows) child) ≡ (response_of inside >>= λ more. Some (InMultistatus (rows ++ more)))
response_joined rows inside =
    let join : Frame → Option Frame = λ child. joined (InMultistatus rows) child in
    let add : List Response → Option Frame = λ more. Some (InMultistatus (rows ++ more)) in
    let empty : ResponseParts = record { hrefs = []; codes = []; has_propstat = false; props = [] } in
    ap (λ (o : Option Frame). o >>= join) (response_read inside empty)
    ∙ bind_assoc (codes_in inside) (λ found. propstats_in inside >>= λ ps. Some (InResponse (response_with empty (hrefs_in inside) found ps))) join
    ∙ bind_same (codes_in inside) (λ found. (propstats_in inside >>= λ ps. Some (InResponse (response_with empty (hrefs_in inside) found ps))) >>= join)
    (λ found. (propstats_in inside >>= λ ps. response_from (hrefs_in inside) found ps) >>= add)
    (λ found. bind_assoc (propstats_in inside) (λ ps. Some (InResponse (response_with empty (hrefs_in inside) found ps))) join
    ∙ bind_same (propstats_in inside) (λ ps. ended_response (hrefs_in inside) found (has_some ps) (joined_props ps) >>= add) (λ ps. response_from (hrefs_in inside) found ps >>= add)
    (λ ps. ap (λ (o : Option (List Response)). o >>= add) (ended-is (hrefs_in inside) found ps))
    ∙ sym (bind_assoc (propstats_in inside) (λ ps. response_from (hrefs_in inside) found ps) add))
    ∙ sym (bind_assoc (codes_in inside) (λ found. propstats_in inside >>= λ ps. response_from (hrefs_in inside) found ps) add)

abbrev MultistatusRead : Tree → Type 0
MultistatusRead t = (rows : List Response) → read_tree t (InMultistatus rows) ≡ (rows_of t >>= λ more. Some (InMultistatus (rows ++ more)))

rows_more : (rows : List Response) (own : Option (List Response)) (more : Option (List (List Response)))
    → (own >>= λ r. (more >>= λ rs. Some (joined_rows rs)) >>= λ m. Some (InMultistatus ((rows ++ r) ++ m)))
    ≡ (((own >>= λ r. more >>= λ rs. Some (r ∷ rs)) >>= λ rs. Some (joined_rows rs)) >>= λ m. Some (InMultistatus (rows ++ m)))
rows_more rows None more = refl
rows_more rows (Some r) None = refl
rows_more rows (Some r) (Some rs) = ap (λ (l : List Response). Some (InMultistatus l)) (append_assoc rows r (joined_rows rs))

multistatus_branch : (name : Expanded) (inside more : Tree) → MultistatusRead more → (t : Bool) → is_dav (codes "response") name ≡ t → MultistatusRead (branch name inside more)
multistatus_branch name inside more next true h rows =
    rw h (sym (bind_assoc (read_tree inside new_response) (λ child. joined (InMultistatus rows) child) (λ f. read_tree more f))
    ∙ ap (λ (o : Option Frame). o >>= λ f. read_tree more f) (response_joined rows inside)
    ∙ bind_assoc (response_of inside) (λ (r : List Response). Some (InMultistatus (rows ++ r))) (λ f. read_tree more f)
    ∙ bind_same (response_of inside) (λ (r : List Response). read_tree more (InMultistatus (rows ++ r))) (λ (r : List Response). rows_of more >>= λ m. Some (InMultistatus ((rows ++ r) ++ m)))
    (λ r. next (rows ++ r))
    ∙ rows_more rows (response_of inside) (all_some response_of (children (codes "response") more)))
multistatus_branch name inside more next false h rows =
    rw h (ap (λ (o : Option Frame). o >>= λ child. joined (InMultistatus rows) child >>= λ f. read_tree more f) (ignored inside) ∙ next rows)

-- what the content of a multistatus leaves is its rows
pub multistatus_read : (t : Tree) (rows : List Response) → read_tree t (InMultistatus rows) ≡ (rows_of t >>= λ more. Some (InMultistatus (rows ++ more)))
multistatus_read end rows = ap (λ (l : List Response). Some (InMultistatus l)) (sym (append-nil rows))
multistatus_read (chars t more) rows = multistatus_read more rows
multistatus_read (branch name inside more) rows = multistatus_branch name inside more (multistatus_read more) (is_dav (codes "response") name) refl rows
