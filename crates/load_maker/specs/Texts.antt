-- The texts of the program and the property.
use Rattle.std.specs.Prelude.{ℕ, List, [], ◌∷◌, ◌++◌, codes}
use Rattle.std.specs.List.{flat_map}

-- each line ends in a line feed
abbrev pub text_of : List (List ℕ) → List ℕ
text_of lines = flat_map (λ l. l ++ codes "\n") lines

-- forwarding by the longest prefix
unfoldable pub program_text : List ℕ
program_text = text_of (
    codes "#include <core.p4>" ∷
    codes "#include <v1model.p4>" ∷
    codes "const bit<16> TYPE_IPV4 = 0x800;" ∷
    codes "typedef bit<9> egressSpec_t;" ∷
    codes "typedef bit<48> macAddr_t;" ∷
    codes "typedef bit<32> ip4Addr_t;" ∷
    codes "header ethernet_t { macAddr_t dstAddr; macAddr_t srcAddr; bit<16> etherType; }" ∷
    codes "header ipv4_t { bit<4> version; bit<4> ihl; bit<8> diffserv; bit<16> totalLen;" ∷
    codes "  bit<16> identification; bit<3> flags; bit<13> fragOffset; bit<8> ttl; bit<8> protocol;" ∷
    codes "  bit<16> hdrChecksum; ip4Addr_t srcAddr; ip4Addr_t dstAddr; }" ∷
    codes "struct metadata { }" ∷
    codes "struct headers { ethernet_t ethernet; ipv4_t ipv4; }" ∷
    codes "parser MyParser(packet_in packet, out headers hdr, inout metadata meta," ∷
    codes "    inout standard_metadata_t standard_metadata) {" ∷
    codes "  state start { transition parse_ethernet; }" ∷
    codes "  state parse_ethernet { packet.extract(hdr.ethernet);" ∷
    codes "    transition select(hdr.ethernet.etherType) { TYPE_IPV4: parse_ipv4; default: accept; } }" ∷
    codes "  state parse_ipv4 { packet.extract(hdr.ipv4); transition accept; }" ∷
    codes "}" ∷
    codes "control MyVerifyChecksum(inout headers hdr, inout metadata meta) { apply { } }" ∷
    codes "control MyIngress(inout headers hdr, inout metadata meta," ∷
    codes "    inout standard_metadata_t standard_metadata) {" ∷
    codes "  action drop() { mark_to_drop(standard_metadata); }" ∷
    codes "  action ipv4_forward(macAddr_t dstAddr, egressSpec_t port) {" ∷
    codes "    standard_metadata.egress_spec = port;" ∷
    codes "    hdr.ethernet.srcAddr = hdr.ethernet.dstAddr;" ∷
    codes "    hdr.ethernet.dstAddr = dstAddr;" ∷
    codes "    hdr.ipv4.ttl = hdr.ipv4.ttl - 1;" ∷
    codes "  }" ∷
    codes "  table ipv4_lpm {" ∷
    codes "    key = { hdr.ipv4.dstAddr: lpm; }" ∷
    codes "    actions = { ipv4_forward; drop; NoAction; }" ∷
    codes "    size = 1024;" ∷
    codes "    default_action = drop();" ∷
    codes "  }" ∷
    codes "  apply { if (hdr.ipv4.isValid()) { ipv4_lpm.apply(); } }" ∷
    codes "}" ∷
    codes "control MyEgress(inout headers hdr, inout metadata meta," ∷
    codes "    inout standard_metadata_t standard_metadata) { apply { } }" ∷
    codes "control MyComputeChecksum(inout headers hdr, inout metadata meta) {" ∷
    codes "  apply { update_checksum(hdr.ipv4.isValid(), { hdr.ipv4.version, hdr.ipv4.ihl," ∷
    codes "    hdr.ipv4.diffserv, hdr.ipv4.totalLen, hdr.ipv4.identification, hdr.ipv4.flags," ∷
    codes "    hdr.ipv4.fragOffset, hdr.ipv4.ttl, hdr.ipv4.protocol, hdr.ipv4.srcAddr," ∷
    codes "    hdr.ipv4.dstAddr }, hdr.ipv4.hdrChecksum, HashAlgorithm.csum16); }" ∷
    codes "}" ∷
    codes "control MyDeparser(packet_out packet, in headers hdr) {" ∷
    codes "  apply { packet.emit(hdr.ethernet); packet.emit(hdr.ipv4); }" ∷
    codes "}" ∷
    codes "V1Switch(MyParser(), MyVerifyChecksum(), MyIngress(), MyEgress(), MyComputeChecksum()," ∷
    codes "  MyDeparser()) main;" ∷
    [])

-- a frame leaves by a port of the tenant by whose port it came
unfoldable pub property_text : List ℕ
property_text = text_of (
    codes "tele bit<8> tenant; tele bit<16>[4] path; sensor bit<32> seen;" ∷
    codes "control dict<bit<9>, bit<8>> tenants;" ∷
    codes "header bit<9> in_port = standard_metadata.ingress_port;" ∷
    codes "header bit<9> out_port = standard_metadata.egress_port;" ∷
    codes "{ tenant = tenants[in_port]; }" ∷
    codes "{ seen = seen + 1; path.push(switch_id); }" ∷
    codes "{ if (tenants[out_port] != tenant) { reject; report(tenant, tenants[out_port]); } }" ∷
    [])
