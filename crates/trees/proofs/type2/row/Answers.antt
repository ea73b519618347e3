-- `type2::row` meets its contract: each arm is its word. Made by tools/annex_c.py.
use mathlib.Core.Path.{◌≡◌, sym, ap}
use Prim.Native.Nat.{ℕ}
use lib.ListN.{get_or, get_or-eq_default}
use Rattle.trees.specs.Words2.{words2}
use Rattle.trees.proofs.Past.{Nots, past}
use Rattle.trees.proofs.type2.row.Goals as goal

at : {i k : ℕ} → i ≡ k → get_or words2 k 0 ≡ get_or words2 i 0
at e = sym (ap (λ (n : ℕ). get_or words2 n 0) e)

past_end : (i : ℕ) → Nots 223 i → 0 ≡ get_or words2 i 0
unfolding words2
past_end i h = sym (get_or-eq_default words2 0 (past 223 h))

pub returns-in-0 : goal.returns-in-0
unfolding words2
returns-in-0 c = at c.in-0.is

pub returns-in-1 : goal.returns-in-1
unfolding words2
returns-in-1 c = at c.in-1.is

pub returns-in-2 : goal.returns-in-2
unfolding words2
returns-in-2 c = at c.in-2.is

pub returns-in-3 : goal.returns-in-3
unfolding words2
returns-in-3 c = at c.in-3.is

pub returns-in-4 : goal.returns-in-4
unfolding words2
returns-in-4 c = at c.in-4.is

pub returns-in-5 : goal.returns-in-5
unfolding words2
returns-in-5 c = at c.in-5.is

pub returns-in-6 : goal.returns-in-6
unfolding words2
returns-in-6 c = at c.in-6.is

pub returns-in-7 : goal.returns-in-7
unfolding words2
returns-in-7 c = at c.in-7.is

pub returns-in-8 : goal.returns-in-8
unfolding words2
returns-in-8 c = at c.in-8.is

pub returns-in-9 : goal.returns-in-9
unfolding words2
returns-in-9 c = at c.in-9.is

pub returns-in-10 : goal.returns-in-10
unfolding words2
returns-in-10 c = at c.in-10.is

pub returns-in-11 : goal.returns-in-11
unfolding words2
returns-in-11 c = at c.in-11.is

pub returns-in-12 : goal.returns-in-12
unfolding words2
returns-in-12 c = at c.in-12.is

pub returns-in-13 : goal.returns-in-13
unfolding words2
returns-in-13 c = at c.in-13.is

pub returns-in-14 : goal.returns-in-14
unfolding words2
returns-in-14 c = at c.in-14.is

pub returns-in-15 : goal.returns-in-15
unfolding words2
returns-in-15 c = at c.in-15.is

pub returns-in-16 : goal.returns-in-16
unfolding words2
returns-in-16 c = at c.in-16.is

pub returns-in-17 : goal.returns-in-17
unfolding words2
returns-in-17 c = at c.in-17.is

pub returns-in-18 : goal.returns-in-18
unfolding words2
returns-in-18 c = at c.in-18.is

pub returns-in-19 : goal.returns-in-19
unfolding words2
returns-in-19 c = at c.in-19.is

pub returns-in-20 : goal.returns-in-20
unfolding words2
returns-in-20 c = at c.in-20.is

pub returns-in-21 : goal.returns-in-21
unfolding words2
returns-in-21 c = at c.in-21.is

pub returns-in-22 : goal.returns-in-22
unfolding words2
returns-in-22 c = at c.in-22.is

pub returns-in-23 : goal.returns-in-23
unfolding words2
returns-in-23 c = at c.in-23.is

pub returns-in-24 : goal.returns-in-24
unfolding words2
returns-in-24 c = at c.in-24.is

pub returns-in-25 : goal.returns-in-25
unfolding words2
returns-in-25 c = at c.in-25.is

pub returns-in-26 : goal.returns-in-26
unfolding words2
returns-in-26 c = at c.in-26.is

pub returns-in-27 : goal.returns-in-27
unfolding words2
returns-in-27 c = at c.in-27.is

pub returns-in-28 : goal.returns-in-28
unfolding words2
returns-in-28 c = at c.in-28.is

pub returns-in-29 : goal.returns-in-29
unfolding words2
returns-in-29 c = at c.in-29.is

pub returns-in-30 : goal.returns-in-30
unfolding words2
returns-in-30 c = at c.in-30.is

pub returns-in-31 : goal.returns-in-31
unfolding words2
returns-in-31 c = at c.in-31.is

pub returns-in-32 : goal.returns-in-32
unfolding words2
returns-in-32 c = at c.in-32.is

pub returns-in-33 : goal.returns-in-33
unfolding words2
returns-in-33 c = at c.in-33.is

pub returns-in-34 : goal.returns-in-34
unfolding words2
returns-in-34 c = at c.in-34.is

pub returns-in-35 : goal.returns-in-35
unfolding words2
returns-in-35 c = at c.in-35.is

pub returns-in-36 : goal.returns-in-36
unfolding words2
returns-in-36 c = at c.in-36.is

pub returns-in-37 : goal.returns-in-37
unfolding words2
returns-in-37 c = at c.in-37.is

pub returns-in-38 : goal.returns-in-38
unfolding words2
returns-in-38 c = at c.in-38.is

pub returns-in-39 : goal.returns-in-39
unfolding words2
returns-in-39 c = at c.in-39.is

pub returns-in-40 : goal.returns-in-40
unfolding words2
returns-in-40 c = at c.in-40.is

pub returns-in-41 : goal.returns-in-41
unfolding words2
returns-in-41 c = at c.in-41.is

pub returns-in-42 : goal.returns-in-42
unfolding words2
returns-in-42 c = at c.in-42.is

pub returns-in-43 : goal.returns-in-43
unfolding words2
returns-in-43 c = at c.in-43.is

pub returns-in-44 : goal.returns-in-44
unfolding words2
returns-in-44 c = at c.in-44.is

pub returns-in-45 : goal.returns-in-45
unfolding words2
returns-in-45 c = at c.in-45.is

pub returns-in-46 : goal.returns-in-46
unfolding words2
returns-in-46 c = at c.in-46.is

pub returns-in-47 : goal.returns-in-47
unfolding words2
returns-in-47 c = at c.in-47.is

pub returns-in-48 : goal.returns-in-48
unfolding words2
returns-in-48 c = at c.in-48.is

pub returns-in-49 : goal.returns-in-49
unfolding words2
returns-in-49 c = at c.in-49.is

pub returns-in-50 : goal.returns-in-50
unfolding words2
returns-in-50 c = at c.in-50.is

pub returns-in-51 : goal.returns-in-51
unfolding words2
returns-in-51 c = at c.in-51.is

pub returns-in-52 : goal.returns-in-52
unfolding words2
returns-in-52 c = at c.in-52.is

pub returns-in-53 : goal.returns-in-53
unfolding words2
returns-in-53 c = at c.in-53.is

pub returns-in-54 : goal.returns-in-54
unfolding words2
returns-in-54 c = at c.in-54.is

pub returns-in-55 : goal.returns-in-55
unfolding words2
returns-in-55 c = at c.in-55.is

pub returns-in-56 : goal.returns-in-56
unfolding words2
returns-in-56 c = at c.in-56.is

pub returns-in-57 : goal.returns-in-57
unfolding words2
returns-in-57 c = at c.in-57.is

pub returns-in-58 : goal.returns-in-58
unfolding words2
returns-in-58 c = at c.in-58.is

pub returns-in-59 : goal.returns-in-59
unfolding words2
returns-in-59 c = at c.in-59.is

pub returns-in-60 : goal.returns-in-60
unfolding words2
returns-in-60 c = at c.in-60.is

pub returns-in-61 : goal.returns-in-61
unfolding words2
returns-in-61 c = at c.in-61.is

pub returns-in-62 : goal.returns-in-62
unfolding words2
returns-in-62 c = at c.in-62.is

pub returns-in-63 : goal.returns-in-63
unfolding words2
returns-in-63 c = at c.in-63.is

pub returns-in-64 : goal.returns-in-64
unfolding words2
returns-in-64 c = at c.in-64.is

pub returns-in-65 : goal.returns-in-65
unfolding words2
returns-in-65 c = at c.in-65.is

pub returns-in-66 : goal.returns-in-66
unfolding words2
returns-in-66 c = at c.in-66.is

pub returns-in-67 : goal.returns-in-67
unfolding words2
returns-in-67 c = at c.in-67.is

pub returns-in-68 : goal.returns-in-68
unfolding words2
returns-in-68 c = at c.in-68.is

pub returns-in-69 : goal.returns-in-69
unfolding words2
returns-in-69 c = at c.in-69.is

pub returns-in-70 : goal.returns-in-70
unfolding words2
returns-in-70 c = at c.in-70.is

pub returns-in-71 : goal.returns-in-71
unfolding words2
returns-in-71 c = at c.in-71.is

pub returns-in-72 : goal.returns-in-72
unfolding words2
returns-in-72 c = at c.in-72.is

pub returns-in-73 : goal.returns-in-73
unfolding words2
returns-in-73 c = at c.in-73.is

pub returns-in-74 : goal.returns-in-74
unfolding words2
returns-in-74 c = at c.in-74.is

pub returns-in-75 : goal.returns-in-75
unfolding words2
returns-in-75 c = at c.in-75.is

pub returns-in-76 : goal.returns-in-76
unfolding words2
returns-in-76 c = at c.in-76.is

pub returns-in-77 : goal.returns-in-77
unfolding words2
returns-in-77 c = at c.in-77.is

pub returns-in-78 : goal.returns-in-78
unfolding words2
returns-in-78 c = at c.in-78.is

pub returns-in-79 : goal.returns-in-79
unfolding words2
returns-in-79 c = at c.in-79.is

pub returns-in-80 : goal.returns-in-80
unfolding words2
returns-in-80 c = at c.in-80.is

pub returns-in-81 : goal.returns-in-81
unfolding words2
returns-in-81 c = at c.in-81.is

pub returns-in-82 : goal.returns-in-82
unfolding words2
returns-in-82 c = at c.in-82.is

pub returns-in-83 : goal.returns-in-83
unfolding words2
returns-in-83 c = at c.in-83.is

pub returns-in-84 : goal.returns-in-84
unfolding words2
returns-in-84 c = at c.in-84.is

pub returns-in-85 : goal.returns-in-85
unfolding words2
returns-in-85 c = at c.in-85.is

pub returns-in-86 : goal.returns-in-86
unfolding words2
returns-in-86 c = at c.in-86.is

pub returns-in-87 : goal.returns-in-87
unfolding words2
returns-in-87 c = at c.in-87.is

pub returns-in-88 : goal.returns-in-88
unfolding words2
returns-in-88 c = at c.in-88.is

pub returns-in-89 : goal.returns-in-89
unfolding words2
returns-in-89 c = at c.in-89.is

pub returns-in-90 : goal.returns-in-90
unfolding words2
returns-in-90 c = at c.in-90.is

pub returns-in-91 : goal.returns-in-91
unfolding words2
returns-in-91 c = at c.in-91.is

pub returns-in-92 : goal.returns-in-92
unfolding words2
returns-in-92 c = at c.in-92.is

pub returns-in-93 : goal.returns-in-93
unfolding words2
returns-in-93 c = at c.in-93.is

pub returns-in-94 : goal.returns-in-94
unfolding words2
returns-in-94 c = at c.in-94.is

pub returns-in-95 : goal.returns-in-95
unfolding words2
returns-in-95 c = at c.in-95.is

pub returns-in-96 : goal.returns-in-96
unfolding words2
returns-in-96 c = at c.in-96.is

pub returns-in-97 : goal.returns-in-97
unfolding words2
returns-in-97 c = at c.in-97.is

pub returns-in-98 : goal.returns-in-98
unfolding words2
returns-in-98 c = at c.in-98.is

pub returns-in-99 : goal.returns-in-99
unfolding words2
returns-in-99 c = at c.in-99.is

pub returns-in-100 : goal.returns-in-100
unfolding words2
returns-in-100 c = at c.in-100.is

pub returns-in-101 : goal.returns-in-101
unfolding words2
returns-in-101 c = at c.in-101.is

pub returns-in-102 : goal.returns-in-102
unfolding words2
returns-in-102 c = at c.in-102.is

pub returns-in-103 : goal.returns-in-103
unfolding words2
returns-in-103 c = at c.in-103.is

pub returns-in-104 : goal.returns-in-104
unfolding words2
returns-in-104 c = at c.in-104.is

pub returns-in-105 : goal.returns-in-105
unfolding words2
returns-in-105 c = at c.in-105.is

pub returns-in-106 : goal.returns-in-106
unfolding words2
returns-in-106 c = at c.in-106.is

pub returns-in-107 : goal.returns-in-107
unfolding words2
returns-in-107 c = at c.in-107.is

pub returns-in-108 : goal.returns-in-108
unfolding words2
returns-in-108 c = at c.in-108.is

pub returns-in-109 : goal.returns-in-109
unfolding words2
returns-in-109 c = at c.in-109.is

pub returns-in-110 : goal.returns-in-110
unfolding words2
returns-in-110 c = at c.in-110.is

pub returns-in-111 : goal.returns-in-111
unfolding words2
returns-in-111 c = at c.in-111.is

pub returns-in-112 : goal.returns-in-112
unfolding words2
returns-in-112 c = at c.in-112.is

pub returns-in-113 : goal.returns-in-113
unfolding words2
returns-in-113 c = at c.in-113.is

pub returns-in-114 : goal.returns-in-114
unfolding words2
returns-in-114 c = at c.in-114.is

pub returns-in-115 : goal.returns-in-115
unfolding words2
returns-in-115 c = at c.in-115.is

pub returns-in-116 : goal.returns-in-116
unfolding words2
returns-in-116 c = at c.in-116.is

pub returns-in-117 : goal.returns-in-117
unfolding words2
returns-in-117 c = at c.in-117.is

pub returns-in-118 : goal.returns-in-118
unfolding words2
returns-in-118 c = at c.in-118.is

pub returns-in-119 : goal.returns-in-119
unfolding words2
returns-in-119 c = at c.in-119.is

pub returns-in-120 : goal.returns-in-120
unfolding words2
returns-in-120 c = at c.in-120.is

pub returns-in-121 : goal.returns-in-121
unfolding words2
returns-in-121 c = at c.in-121.is

pub returns-in-122 : goal.returns-in-122
unfolding words2
returns-in-122 c = at c.in-122.is

pub returns-in-123 : goal.returns-in-123
unfolding words2
returns-in-123 c = at c.in-123.is

pub returns-in-124 : goal.returns-in-124
unfolding words2
returns-in-124 c = at c.in-124.is

pub returns-in-125 : goal.returns-in-125
unfolding words2
returns-in-125 c = at c.in-125.is

pub returns-in-126 : goal.returns-in-126
unfolding words2
returns-in-126 c = at c.in-126.is

pub returns-in-127 : goal.returns-in-127
unfolding words2
returns-in-127 c = at c.in-127.is

pub returns-in-128 : goal.returns-in-128
unfolding words2
returns-in-128 c = at c.in-128.is

pub returns-in-129 : goal.returns-in-129
unfolding words2
returns-in-129 c = at c.in-129.is

pub returns-in-130 : goal.returns-in-130
unfolding words2
returns-in-130 c = at c.in-130.is

pub returns-in-131 : goal.returns-in-131
unfolding words2
returns-in-131 c = at c.in-131.is

pub returns-in-132 : goal.returns-in-132
unfolding words2
returns-in-132 c = at c.in-132.is

pub returns-in-133 : goal.returns-in-133
unfolding words2
returns-in-133 c = at c.in-133.is

pub returns-in-134 : goal.returns-in-134
unfolding words2
returns-in-134 c = at c.in-134.is

pub returns-in-135 : goal.returns-in-135
unfolding words2
returns-in-135 c = at c.in-135.is

pub returns-in-136 : goal.returns-in-136
unfolding words2
returns-in-136 c = at c.in-136.is

pub returns-in-137 : goal.returns-in-137
unfolding words2
returns-in-137 c = at c.in-137.is

pub returns-in-138 : goal.returns-in-138
unfolding words2
returns-in-138 c = at c.in-138.is

pub returns-in-139 : goal.returns-in-139
unfolding words2
returns-in-139 c = at c.in-139.is

pub returns-in-140 : goal.returns-in-140
unfolding words2
returns-in-140 c = at c.in-140.is

pub returns-in-141 : goal.returns-in-141
unfolding words2
returns-in-141 c = at c.in-141.is

pub returns-in-142 : goal.returns-in-142
unfolding words2
returns-in-142 c = at c.in-142.is

pub returns-in-143 : goal.returns-in-143
unfolding words2
returns-in-143 c = at c.in-143.is

pub returns-in-144 : goal.returns-in-144
unfolding words2
returns-in-144 c = at c.in-144.is

pub returns-in-145 : goal.returns-in-145
unfolding words2
returns-in-145 c = at c.in-145.is

pub returns-in-146 : goal.returns-in-146
unfolding words2
returns-in-146 c = at c.in-146.is

pub returns-in-147 : goal.returns-in-147
unfolding words2
returns-in-147 c = at c.in-147.is

pub returns-in-148 : goal.returns-in-148
unfolding words2
returns-in-148 c = at c.in-148.is

pub returns-in-149 : goal.returns-in-149
unfolding words2
returns-in-149 c = at c.in-149.is

pub returns-in-150 : goal.returns-in-150
unfolding words2
returns-in-150 c = at c.in-150.is

pub returns-in-151 : goal.returns-in-151
unfolding words2
returns-in-151 c = at c.in-151.is

pub returns-in-152 : goal.returns-in-152
unfolding words2
returns-in-152 c = at c.in-152.is

pub returns-in-153 : goal.returns-in-153
unfolding words2
returns-in-153 c = at c.in-153.is

pub returns-in-154 : goal.returns-in-154
unfolding words2
returns-in-154 c = at c.in-154.is

pub returns-in-155 : goal.returns-in-155
unfolding words2
returns-in-155 c = at c.in-155.is

pub returns-in-156 : goal.returns-in-156
unfolding words2
returns-in-156 c = at c.in-156.is

pub returns-in-157 : goal.returns-in-157
unfolding words2
returns-in-157 c = at c.in-157.is

pub returns-in-158 : goal.returns-in-158
unfolding words2
returns-in-158 c = at c.in-158.is

pub returns-in-159 : goal.returns-in-159
unfolding words2
returns-in-159 c = at c.in-159.is

pub returns-in-160 : goal.returns-in-160
unfolding words2
returns-in-160 c = at c.in-160.is

pub returns-in-161 : goal.returns-in-161
unfolding words2
returns-in-161 c = at c.in-161.is

pub returns-in-162 : goal.returns-in-162
unfolding words2
returns-in-162 c = at c.in-162.is

pub returns-in-163 : goal.returns-in-163
unfolding words2
returns-in-163 c = at c.in-163.is

pub returns-in-164 : goal.returns-in-164
unfolding words2
returns-in-164 c = at c.in-164.is

pub returns-in-165 : goal.returns-in-165
unfolding words2
returns-in-165 c = at c.in-165.is

pub returns-in-166 : goal.returns-in-166
unfolding words2
returns-in-166 c = at c.in-166.is

pub returns-in-167 : goal.returns-in-167
unfolding words2
returns-in-167 c = at c.in-167.is

pub returns-in-168 : goal.returns-in-168
unfolding words2
returns-in-168 c = at c.in-168.is

pub returns-in-169 : goal.returns-in-169
unfolding words2
returns-in-169 c = at c.in-169.is

pub returns-in-170 : goal.returns-in-170
unfolding words2
returns-in-170 c = at c.in-170.is

pub returns-in-171 : goal.returns-in-171
unfolding words2
returns-in-171 c = at c.in-171.is

pub returns-in-172 : goal.returns-in-172
unfolding words2
returns-in-172 c = at c.in-172.is

pub returns-in-173 : goal.returns-in-173
unfolding words2
returns-in-173 c = at c.in-173.is

pub returns-in-174 : goal.returns-in-174
unfolding words2
returns-in-174 c = at c.in-174.is

pub returns-in-175 : goal.returns-in-175
unfolding words2
returns-in-175 c = at c.in-175.is

pub returns-in-176 : goal.returns-in-176
unfolding words2
returns-in-176 c = at c.in-176.is

pub returns-in-177 : goal.returns-in-177
unfolding words2
returns-in-177 c = at c.in-177.is

pub returns-in-178 : goal.returns-in-178
unfolding words2
returns-in-178 c = at c.in-178.is

pub returns-in-179 : goal.returns-in-179
unfolding words2
returns-in-179 c = at c.in-179.is

pub returns-in-180 : goal.returns-in-180
unfolding words2
returns-in-180 c = at c.in-180.is

pub returns-in-181 : goal.returns-in-181
unfolding words2
returns-in-181 c = at c.in-181.is

pub returns-in-182 : goal.returns-in-182
unfolding words2
returns-in-182 c = at c.in-182.is

pub returns-in-183 : goal.returns-in-183
unfolding words2
returns-in-183 c = at c.in-183.is

pub returns-in-184 : goal.returns-in-184
unfolding words2
returns-in-184 c = at c.in-184.is

pub returns-in-185 : goal.returns-in-185
unfolding words2
returns-in-185 c = at c.in-185.is

pub returns-in-186 : goal.returns-in-186
unfolding words2
returns-in-186 c = at c.in-186.is

pub returns-in-187 : goal.returns-in-187
unfolding words2
returns-in-187 c = at c.in-187.is

pub returns-in-188 : goal.returns-in-188
unfolding words2
returns-in-188 c = at c.in-188.is

pub returns-in-189 : goal.returns-in-189
unfolding words2
returns-in-189 c = at c.in-189.is

pub returns-in-190 : goal.returns-in-190
unfolding words2
returns-in-190 c = at c.in-190.is

pub returns-in-191 : goal.returns-in-191
unfolding words2
returns-in-191 c = at c.in-191.is

pub returns-in-192 : goal.returns-in-192
unfolding words2
returns-in-192 c = at c.in-192.is

pub returns-in-193 : goal.returns-in-193
unfolding words2
returns-in-193 c = at c.in-193.is

pub returns-in-194 : goal.returns-in-194
unfolding words2
returns-in-194 c = at c.in-194.is

pub returns-in-195 : goal.returns-in-195
unfolding words2
returns-in-195 c = at c.in-195.is

pub returns-in-196 : goal.returns-in-196
unfolding words2
returns-in-196 c = at c.in-196.is

pub returns-in-197 : goal.returns-in-197
unfolding words2
returns-in-197 c = at c.in-197.is

pub returns-in-198 : goal.returns-in-198
unfolding words2
returns-in-198 c = at c.in-198.is

pub returns-in-199 : goal.returns-in-199
unfolding words2
returns-in-199 c = at c.in-199.is

pub returns-in-200 : goal.returns-in-200
unfolding words2
returns-in-200 c = at c.in-200.is

pub returns-in-201 : goal.returns-in-201
unfolding words2
returns-in-201 c = at c.in-201.is

pub returns-in-202 : goal.returns-in-202
unfolding words2
returns-in-202 c = at c.in-202.is

pub returns-in-203 : goal.returns-in-203
unfolding words2
returns-in-203 c = at c.in-203.is

pub returns-in-204 : goal.returns-in-204
unfolding words2
returns-in-204 c = at c.in-204.is

pub returns-in-205 : goal.returns-in-205
unfolding words2
returns-in-205 c = at c.in-205.is

pub returns-in-206 : goal.returns-in-206
unfolding words2
returns-in-206 c = at c.in-206.is

pub returns-in-207 : goal.returns-in-207
unfolding words2
returns-in-207 c = at c.in-207.is

pub returns-in-208 : goal.returns-in-208
unfolding words2
returns-in-208 c = at c.in-208.is

pub returns-in-209 : goal.returns-in-209
unfolding words2
returns-in-209 c = at c.in-209.is

pub returns-in-210 : goal.returns-in-210
unfolding words2
returns-in-210 c = at c.in-210.is

pub returns-in-211 : goal.returns-in-211
unfolding words2
returns-in-211 c = at c.in-211.is

pub returns-in-212 : goal.returns-in-212
unfolding words2
returns-in-212 c = at c.in-212.is

pub returns-in-213 : goal.returns-in-213
unfolding words2
returns-in-213 c = at c.in-213.is

pub returns-in-214 : goal.returns-in-214
unfolding words2
returns-in-214 c = at c.in-214.is

pub returns-in-215 : goal.returns-in-215
unfolding words2
returns-in-215 c = at c.in-215.is

pub returns-in-216 : goal.returns-in-216
unfolding words2
returns-in-216 c = at c.in-216.is

pub returns-in-217 : goal.returns-in-217
unfolding words2
returns-in-217 c = at c.in-217.is

pub returns-in-218 : goal.returns-in-218
unfolding words2
returns-in-218 c = at c.in-218.is

pub returns-in-219 : goal.returns-in-219
unfolding words2
returns-in-219 c = at c.in-219.is

pub returns-in-220 : goal.returns-in-220
unfolding words2
returns-in-220 c = at c.in-220.is

pub returns-in-221 : goal.returns-in-221
unfolding words2
returns-in-221 c = at c.in-221.is

pub returns-in-222 : goal.returns-in-222
unfolding words2
returns-in-222 c = at c.in-222.is

pub returns-in_default : goal.returns-in_default
unfolding Nots
returns-in_default c = search past_end
